use Rattle.std.proofs.Common.{◌≡◌}
use Rattle.nsc_workload.specs.Runs.{first_of, replies_from}
use Rattle.nsc_workload.proofs.workers.gathered.Given as goal

abbrev pub invariant-loop-share : goal.invariant-loop-share
invariant-loop-share g l = l.replies.items ≡ replies_from (g.W.Work.number l.work) 0 (first_of (g.W.Work.number l.work) (g.W.Work.workers l.work) l.share-index)
