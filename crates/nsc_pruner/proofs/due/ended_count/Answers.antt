use Rattle.std.proofs.Common.{length-take, take, arith, refl}
use Rattle.std.proofs.lemmas.List.Filters.{length-filter_both}
use Rattle.std.specs.Prelude.{not}
use Rattle.nsc_pruner.specs.Due.{Due}
use Rattle.nsc_pruner.proofs.due.ended_count.Goals as goal

pub overflow_add-count : goal.overflow_add-count
overflow_add-count c =
    let seen = take c.loop-one.one-index c.args.due.now in
    let both = length-filter_both (λ (d : Due). d.ended) (λ (d : Due). not d.ended) (λ d. refl) seen in
    omega (arith, both, c.loop-one.invariant, length-take c.loop-one.one-index c.args.due.now, c.loop-one-test.true)
