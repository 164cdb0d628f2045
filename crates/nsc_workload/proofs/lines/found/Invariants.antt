use Rattle.std.proofs.Common.{◌≡◌, ◌≤◌, count_by, take}
use Rattle.nsc_workload.specs.Runs.{has_row as has_row_of}
use Rattle.nsc_workload.proofs.lines.found.Given as goal

abbrev pub invariant-loop-reply : goal.invariant-loop-reply
invariant-loop-reply l = (l.count ≡ count_by has_row_of (take l.reply-index l.replies)) × (l.count ≤ l.reply-index)
