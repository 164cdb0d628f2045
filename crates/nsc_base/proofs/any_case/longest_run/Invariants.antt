use Rattle.std.proofs.Common.{◌≤◌}
use Rattle.nsc_base.proofs.AnyCase.{NoLetters}
use Rattle.nsc_base.proofs.any_case.longest_run.Given as goal

abbrev pub invariant-loop-i : goal.invariant-loop-i
invariant-loop-i l = record {
  begins : l.start ≤ l.i;
  run : NoLetters l.needle l.start l.i;
  ordered : l.longest.from ≤ l.longest.to;
  within : l.longest.to ≤ l.i;
  longest : NoLetters l.needle l.longest.from l.longest.to;
}
