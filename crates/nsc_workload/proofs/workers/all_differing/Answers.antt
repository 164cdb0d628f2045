use Rattle.std.proofs.Common.{◌≡◌, ◌≤◌, ◌∙◌, ap, arith}
use Rattle.std.proofs.lemmas.Grind.{common_steps}
use Rattle.nsc_workload.specs.Runs.{asked_count, differing_of}
use Rattle.nsc_workload.proofs.Counted.{differing_low}
use Rattle.nsc_workload.proofs.workers.all_differing.Goals as goal

pub overflow_add-count : goal.overflow_add-count
overflow_add-count c =
    let own = c.texts-item.result in
    let same : c.differing-count.result ≡ differing_of c.args.replies.now own = c.differing-count.ensures ∙ ap (differing_of c.args.replies.now) c.as_slice.ensures in
    let low : differing_of c.args.replies.now own ≤ asked_count = differing_low c.args.replies.now c.args.answers.now c.loop-texts.texts-index own c.requires.asked c.loop-texts-test.true c.texts-item.is in
    omega arith

pub loop-texts-preserved : goal.loop-texts-preserved
loop-texts-preserved c =
    let own = c.texts-item.result in
    let same : c.differing-count.result ≡ differing_of c.args.replies.now own = c.differing-count.ensures ∙ ap (differing_of c.args.replies.now) c.as_slice.ensures in
    let low : differing_of c.args.replies.now own ≤ asked_count = differing_low c.args.replies.now c.args.answers.now c.loop-texts.texts-index own c.requires.asked c.loop-texts-test.true c.texts-item.is in
    record {
      counted = grind (arith, common_steps);
      low = omega arith;
    }
