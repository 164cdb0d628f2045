use Rattle.std.proofs.Common.{◌≡◌}
use Rattle.nsc_workload.specs.Runs.{replies_from}
use Rattle.nsc_workload.proofs.assignment.Assignment.replies.Given as goal

abbrev pub invariant-loop-turn : goal.invariant-loop-turn
invariant-loop-turn g l = (l.replies.items ≡ replies_from l.self.number l.from l.turn) × (l.pass.db ≡ l.self.database.now.db)
