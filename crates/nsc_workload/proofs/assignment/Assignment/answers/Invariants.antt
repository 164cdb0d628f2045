use Rattle.std.proofs.Common.{◌≡◌, vec_len}
use Rattle.nsc_workload.proofs.assignment.Assignment.answers.Given as goal

abbrev pub invariant-loop-place : goal.invariant-loop-place
invariant-loop-place g l = (l.pass.db ≡ l.self.database.now.db) × (l.found.limit ≡ 65536) × (vec_len l.answers ≡ l.place)
