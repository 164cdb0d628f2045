use Rattle.std.proofs.Common.{◌≡◌, ℕ, ◌<◌, ◌==◌, false, get_or}
use Rattle.nsc_index.proofs.fronts.colon_in.Given as goal

-- no byte before the place is a colon
abbrev pub invariant-loop-place : goal.invariant-loop-place
invariant-loop-place l = (k : ℕ) → k < l.place → (get_or l.bytes k 0 == 58) ≡ false
