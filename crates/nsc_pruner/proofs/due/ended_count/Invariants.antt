use Rattle.std.proofs.Common.{◌≡◌, filter, length, take}
use Rattle.nsc_pruner.specs.Due.{Due}
use Rattle.nsc_pruner.proofs.due.ended_count.Given as goal

abbrev pub invariant-loop-one : goal.invariant-loop-one
invariant-loop-one l = l.count ≡ length (filter (λ (d : Due). d.ended) (take l.one-index l.due))
