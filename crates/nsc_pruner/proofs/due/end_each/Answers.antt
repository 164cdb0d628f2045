use Rattle.std.proofs.Common.{◌≡◌, ◌<◌, ◌+◌, ◌∙◌, All, drop, get_or, length, set, ap, arith, sym, subst}
use Rattle.nsc_pruner.specs.Due.{Due, IsOver}
use Rattle.nsc_shelf.specs.Shelf.{has_number}
use Rattle.nsc_writer.specs.Writer.{ending_of}
use Rattle.nsc_model.specs.History.{Allows}
use Rattle.nsc_writer.specs.declared.writer.Cause.{Cause}
use Rattle.nsc_pruner.proofs.Pruned.{all_marked, all_pruned, head_of, next_ended, nothing_ended, one_ended, over_allows, split_at}
use Rattle.nsc_pruner.proofs.due.end_each.Goals as goal

pub loop-one-init : goal.loop-one-init
loop-one-init c = nothing_ended c.args.now c.args.due.now c.args.writer.now c.requires.over

pub end-ended-requires-clause-still : goal.end-ended-requires-clause-still
end-ended-requires-clause-still c = c.loop-one.invariant.slide ∙ c.requires.still

pub end-ended-requires-clause-allowed : goal.end-ended-requires-clause-allowed
end-ended-requires-clause-allowed c e live number =
    let d : Due = get_or c.loop-one.due c.loop-one.one-index c.one-item.result in
    let low : c.loop-one.one-index < length c.loop-one.due = omega arith in
    let split = split_at c.loop-one.due c.loop-one.one-index c.one-item.result low in
    let over = head_of (IsOver c.loop-one.writer.seen c.args.now) d (drop (c.loop-one.one-index + 1) c.loop-one.due) (subst (All (IsOver c.loop-one.writer.seen c.args.now)) split c.loop-one.invariant.over) in
    subst (λ (cause : Cause). Allows (ending_of cause) e) (sym c.cause.ensures)
    (over_allows c.loop-one.writer.seen c.args.now d c.learn.ensures.told.legal over e live (number ∙ ap (λ (x : Due). x.number) c.one.view_is))

pub loop-one-preserved : goal.loop-one-preserved
loop-one-preserved c =
    let d : Due = get_or c.loop-one.due c.loop-one.one-index c.one-item.result in
    let w = c.loop-one.writer in
    let low : c.loop-one.one-index < length c.loop-one.due = omega arith in
    let split = split_at c.loop-one.due c.loop-one.one-index c.one-item.result low in
    let number = ap (λ (x : Due). x.number) c.one.view_is in
    let ended = one_ended c.args.now d w c.end-ended.new.self c.one.inside.number c.cause.result c.end-ended.result number c.cause.ensures c.end-ended.ensures.live c.end-ended.ensures.ended c.end-ended.ensures.stays in
    let live : c.end-ended.result ≡ has_number d.number w.cache.entries = c.end-ended.ensures.live ∙ ap (λ n. has_number n w.cache.entries) number in
    let marked = c.mark.ensures ∙ ap (λ b. let x : Due = record d { ended = b } in x) live in
    next_ended c.args.now c.args.due.now c.args.writer.now w c.end-ended.new.self c.loop-one.due _ c.loop-one.one-index d c.loop-one.invariant low split ended (ap (set c.loop-one.due c.loop-one.one-index) marked)

pub returns-clause-pruned : goal.returns-clause-pruned
returns-clause-pruned c = all_pruned c.args.now c.args.due.now c.args.writer.now c.loop-one.writer c.loop-one.due c.loop-one.one-index c.loop-one.invariant (omega arith)

pub returns-clause-marked : goal.returns-clause-marked
returns-clause-marked c = all_marked c.args.now c.args.due.now c.args.writer.now c.loop-one.writer c.loop-one.due c.loop-one.one-index c.loop-one.invariant (omega arith)
