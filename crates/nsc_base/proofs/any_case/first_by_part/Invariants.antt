use Rattle.std.proofs.Common.{◌≤◌, ◌+◌, ◌-◌, length}
use Rattle.nsc_base.proofs.AnyCase.{NoneFrom}
use Rattle.nsc_base.proofs.any_case.first_by_part.Given as goal

abbrev pub invariant-loop-n : goal.invariant-loop-n
invariant-loop-n l = record {
  past : l.ahead ≤ l.from;
  none : NoneFrom l.needle l.bytes (l.from - l.ahead);
}

abbrev pub decreases-loop-n : goal.decreases-loop-n
decreases-loop-n l = length l.bytes + 1 - l.from
