use Rattle.std.proofs.Common.{◌≡◌}
use Rattle.nsc_workload.proofs.assignment.AssignmentWork.tick.Given as goal

abbrev pub invariant-loop-turn : goal.invariant-loop-turn
invariant-loop-turn g l = l.pass.db ≡ l.self.database.now.db
