use Rattle.std.proofs.Common.{◌≡◌, ◌≤◌, count_by, not, take}
use Rattle.nsc_workload.specs.Runs.{has_row as has_row_of}
use Rattle.nsc_workload.proofs.lines.missing.Given as goal

abbrev pub invariant-loop-reply : goal.invariant-loop-reply
invariant-loop-reply l = (l.count ≡ count_by (λ r. not (has_row_of r)) (take l.reply-index l.replies)) × (l.count ≤ l.reply-index)
