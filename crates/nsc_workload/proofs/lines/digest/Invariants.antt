use Rattle.std.proofs.Common.{flat_map, take}
use Rattle.sha2.specs.Hashers.{Holds256}
use Rattle.nsc_workload.proofs.lines.digest.Given as goal

abbrev pub invariant-loop-reply : goal.invariant-loop-reply
invariant-loop-reply l = Holds256 l.hasher (flat_map (λ r. r) (take l.reply-index l.replies))
