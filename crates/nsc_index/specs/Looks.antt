-- The places of a byte among the first thirty-two bytes of a text, as bits of a number.
use Rattle.std.specs.Prelude.{◌≡◌, ◌≢◌, ℕ, Bool, ◌<◌, ◌≤◌, ◌==◌, if◌then◌else◌, List, slice_index}
use Rattle.std.specs.Int.{bit_at}

abbrev pub is_newline : ℕ → Bool
is_newline b = b == 10

-- a bit is set for each of the first thirty-two bytes that is this byte, and no other
pub record MarksByte (byte : ℕ) (bytes : List ℕ) (bits : ℕ) : Type 0 where
  pub marks : (k : ℕ) → k < 32 → bit_at bits k ≡ (if slice_index bytes k == byte then 1 else 0)
  pub no_more : (k : ℕ) → 32 ≤ k → bit_at bits k ≡ 0

-- the lowest place at which a bit is set
pub record IsLowest (bits place : ℕ) : Type 0 where
  pub within : place < 64
  pub set : bit_at bits place ≡ 1
  pub below : (k : ℕ) → k < place → bit_at bits k ≡ 0

-- the same bits but for one, which is not set
pub record IsWithout (bits place fewer : ℕ) : Type 0 where
  pub taken : bit_at fewer place ≡ 0
  pub kept : (k : ℕ) → k < 64 → k ≢ place → bit_at fewer k ≡ bit_at bits k
