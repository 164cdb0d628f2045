use Rattle.std.proofs.Common.{◌≡◌, Some, map}
use Rattle.nsc_workload.proofs.workers.all_given.Given as goal

abbrev pub invariant-loop-texts : goal.invariant-loop-texts
invariant-loop-texts l = map Some l.all.items ≡ l.yielded
