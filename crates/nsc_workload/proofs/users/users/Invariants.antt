use Rattle.std.proofs.Common.{◌≡◌, ◌≤◌, ◌*◌, vec_len}
use Rattle.nsc_workload.specs.Workload.{users as users_of}
use Rattle.nsc_workload.proofs.users.users.Given as goal

abbrev pub invariant-loop-user : goal.invariant-loop-user
invariant-loop-user l = (l.lines.items ≡ users_of l.user) × (vec_len l.lines ≤ 64 * l.user)
