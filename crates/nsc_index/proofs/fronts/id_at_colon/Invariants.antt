use Rattle.std.proofs.Common.{◌≡◌, ℕ, ◌<◌, ◌==◌, ◌^◌, false, true, get_or, take}
use Rattle.std.specs.Char.{is_ascii_digit}
use Rattle.std.specs.List.{list_all}
use Rattle.nsc_base.specs.Decimal.{value_of}
use Rattle.nsc_index.proofs.fronts.id_at_colon.Given as goal

-- no byte before the place is a colon, and the bytes before it are digits that spell the number
abbrev pub invariant-loop-place : goal.invariant-loop-place
invariant-loop-place l = record {
  front : (k : ℕ) → k < l.place → (get_or l.bytes k 0 == 58) ≡ false;
  small : l.id < 2 ^ 32;
  spelled : l.id ≡ value_of (take l.place l.bytes);
  digits : list_all is_ascii_digit (take l.place l.bytes) ≡ true;
}
