use Rattle.std.proofs.Common.{◌≡◌, ◌++◌, take}
use Rattle.nsc_workload.proofs.workers.put_copies.Given as goal

abbrev pub invariant-loop-text : goal.invariant-loop-text
invariant-loop-text l = l.out.items ≡ l.initial.out.items ++ take l.text-index l.texts
