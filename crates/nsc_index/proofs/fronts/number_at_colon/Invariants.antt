use Rattle.std.proofs.Common.{◌≡◌, ℕ, ◌<◌, ◌==◌, false, get_or, take}
use Rattle.nsc_index.specs.Numbers.{text_number}
use Rattle.nsc_index.proofs.fronts.number_at_colon.Given as goal

-- no byte before the place is a colon, and the number is that of the bytes before it
abbrev pub invariant-loop-place : goal.invariant-loop-place
invariant-loop-place l = record {
  front : (k : ℕ) → k < l.place → (get_or l.bytes k 0 == 58) ≡ false;
  number : l.number ≡ text_number (take l.place l.bytes);
}
