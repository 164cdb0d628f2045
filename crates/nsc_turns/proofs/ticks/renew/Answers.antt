use Rattle.std.proofs.Common.{◌∙◌, List, length, ap, arith}
use Rattle.nsc_pruner.specs.Due.{Due, marked_by, pruned_by}
use Rattle.nsc_turns.specs.Ticks.{ended_of}
use Rattle.nsc_turns.proofs.Renewed.{all_on, leaves_compacted, leaves_pruned, leaves_through, length_marked}
use Rattle.nsc_turns.proofs.ticks.renew.Goals as goal

pub reload-requires : goal.reload-requires
reload-requires c =
    let w = c.args.writer.now in
    let swept = c.end_due.new.writer in
    let leaves = leaves_through w (pruned_by c.args.now c.args.due.now w) swept (leaves_pruned c.args.now c.args.due.now w) (leaves_compacted (ended_of (marked_by c.args.now c.args.due.now w)) (pruned_by c.args.now c.args.due.now w) swept c.in-Ok.ensures.completes) in
    let marked = ap (λ (ds : List Due). length ds) c.in-Ok.ensures.marked ∙ length_marked c.args.now c.args.due.now w in
    record {
      answered = all_on w.seen swept.seen c.args.loads.now c.learn-in-Ok.ensures.told.legal c.learn.ensures.told.legal leaves.on c.requires.answered;
      many = let low = c.requires.many in omega arith;
      still = leaves.slide ∙ c.requires.still;
    }
