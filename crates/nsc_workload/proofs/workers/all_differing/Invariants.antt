use Rattle.std.proofs.Common.{◌≡◌, ◌≤◌, ◌*◌, sum_by, take}
use Rattle.nsc_workload.specs.Runs.{asked_count, differing_of}
use Rattle.nsc_workload.proofs.workers.all_differing.Given as goal

abbrev pub invariant-loop-texts : goal.invariant-loop-texts
invariant-loop-texts l = record {
  counted : l.count ≡ sum_by (λ a. differing_of l.replies a) (take l.texts-index l.answers);
  low : l.count ≤ asked_count * l.texts-index;
}
