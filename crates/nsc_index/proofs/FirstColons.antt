-- The bytes before the first colon, and the number that they spell.
use Rattle.std.proofs.Common.{◌≡◌, ℕ, ◌+◌, ◌-◌, ◌*◌, ◌^◌, ◌%◌, ◌<◌, ◌≤◌, ◌==◌, ⊎_elim, false, true, List, [], length, take, get_or, Some, None, sym, ◌∙◌, ap, arith}
use Rattle.std.specs.Char.{is_ascii_digit}
use Rattle.std.specs.List.{after_first, before_first, list_all, position_or_len}
use Rattle.std.proofs.lemmas.Bool.{cases_lt}
use Rattle.std.proofs.lemmas.Bool.Decides.{Decides-eqb, nat_tests}
use Rattle.std.proofs.lemmas.List.{drop_all, get_or-take, length-take, length-take-le, take-take}
use Rattle.std.proofs.lemmas.List.Sums.{passes_at_first, position_or_len_is}
use borrow.Author.Count.{below_more}
use Rattle.nsc_base.specs.Decimal.{decimal_of, value_of}
use Rattle.nsc_base.proofs.Digits.{decimal-done, decimal-other, decimal-past}
use Rattle.nsc_index.specs.Fronts.{is_colon}

-- no byte before a place is a colon
abbrev pub NoneBefore : List ℕ → ℕ → Type 0
NoneBefore bytes place = (k : ℕ) → k < place → (get_or bytes k 0 == 58) ≡ false

-- a byte stands at a place, and nowhere before it
pub byte_there : (byte : ℕ) (bytes : List ℕ) (place : ℕ) → place < length bytes → ((k : ℕ) → k < place → (get_or bytes k 0 == byte) ≡ false) → get_or bytes place 0 ≡ byte → position_or_len (λ b. b == byte) bytes ≡ place
byte_there byte bytes place inside before here = position_or_len_is (λ b. b == byte) bytes place 0 (omega arith) before (λ lt. (Decides-eqb (get_or bytes place 0) byte).1 here)

pub colon_there : (bytes : List ℕ) (place : ℕ) → place < length bytes → NoneBefore bytes place → get_or bytes place 0 ≡ 58 → position_or_len is_colon bytes ≡ place
colon_there bytes place inside before here = byte_there 58 bytes place inside before here

pub no_colon : (bytes : List ℕ) (place : ℕ) → length bytes ≤ place → NoneBefore bytes place → position_or_len is_colon bytes ≡ length bytes
no_colon bytes place past before = position_or_len_is is_colon bytes (length bytes) 0 (omega arith) (λ k below. before k (omega arith)) (λ lt. absurd (omega arith))

pub all_after : (bytes : List ℕ) → position_or_len is_colon bytes ≡ length bytes → after_first is_colon bytes ≡ []
all_after bytes is = drop_all (position_or_len is_colon bytes + 1) bytes (omega arith)

-- the first colon stands behind all places that have none
no_earlier : (bytes : List ℕ) (place : ℕ) → place ≤ length bytes → NoneBefore bytes place → place ≤ position_or_len is_colon bytes
no_earlier bytes place inside before =
    ⊎_elim
    (λ (less : position_or_len is_colon bytes < place).
    let here : is_colon (get_or bytes (position_or_len is_colon bytes) 0) ≡ true = passes_at_first is_colon bytes 0 (omega arith) in
    let other : is_colon (get_or bytes (position_or_len is_colon bytes) 0) ≡ false = before (position_or_len is_colon bytes) less in
    cc)
    (λ (more : place ≤ position_or_len is_colon bytes). more)
    (cases_lt (position_or_len is_colon bytes) place)

-- a place before the first colon is one of the bytes before it
pub within_front : (bytes : List ℕ) (place : ℕ) → place < length bytes → NoneBefore bytes place → (get_or bytes place 0 == 58) ≡ false → (place < length (before_first is_colon bytes)) × ((get_or (before_first is_colon bytes) place 0 ≡ get_or bytes place 0) × (take place (before_first is_colon bytes) ≡ take place bytes))
within_front bytes place inside before other =
    let behind : place + 1 ≤ position_or_len is_colon bytes = no_earlier bytes (place + 1) (omega arith) (below_more (λ k. (get_or bytes k 0 == 58) ≡ false) place before other) in
    let long = length-take (position_or_len is_colon bytes) bytes in
    (omega arith, (get_or-take (position_or_len is_colon bytes) bytes place 0 (omega arith), take-take place (position_or_len is_colon bytes) bytes (omega arith)))

-- what a byte is above the digit 0, where one below it wraps around: a digit where that is at most 9
pub is_digit : (byte above : ℕ) → byte < 256 → above ≡ (byte + 208) % 256 → above ≤ 9 → (is_ascii_digit byte ≡ true) × (above ≡ byte - 48)
is_digit byte above small is low = (grind (arith, nat_tests), omega arith)

pub no_digit : (byte above : ℕ) → byte < 256 → above ≡ (byte + 208) % 256 → 9 < above → is_ascii_digit byte ≡ false
no_digit byte above small is high = grind (arith, nat_tests)

pub colon_apart : (byte : ℕ) → is_ascii_digit byte ≡ true → (byte == 58) ≡ false
colon_apart byte digit = grind (arith, nat_tests)

-- where a byte before the first colon is no digit
pub other_byte : (bytes : List ℕ) (place : ℕ) → place < length bytes → NoneBefore bytes place → (get_or bytes place 0 == 58) ≡ false → is_ascii_digit (get_or bytes place 0) ≡ false → decimal_of (before_first is_colon bytes) ≡ None
other_byte bytes place inside before other digit =
    let there = within_front bytes place inside before other in
    decimal-other (before_first is_colon bytes) place there.0 (ap is_ascii_digit there.1.0 ∙ digit)

-- where the digits before the first colon spell too large a number
pub large_id : (bytes : List ℕ) (place id : ℕ) → place < length bytes → NoneBefore bytes place → (get_or bytes place 0 == 58) ≡ false → id ≡ value_of (take place bytes) → 2 ^ 32 ≤ id * 10 + (get_or bytes place 0 - 48) → decimal_of (before_first is_colon bytes) ≡ None
large_id bytes place id inside before other spelled large =
    let there = within_front bytes place inside before other in
    decimal-past (before_first is_colon bytes) place id there.0 (spelled ∙ ap value_of (sym there.1.1)) (rw there.1.0 large)

-- where all bytes before the first colon are digits, and there are some
pub whole_id : (bytes : List ℕ) (place id : ℕ) → place ≤ length bytes → position_or_len is_colon bytes ≡ place → (place == 0) ≡ false → id < 2 ^ 32 → id ≡ value_of (take place bytes) → list_all is_ascii_digit (take place bytes) ≡ true → Some id ≡ decimal_of (before_first is_colon bytes)
whole_id bytes place id inside is some small spelled digits =
    let long : length (take place bytes) ≡ place = length-take-le place bytes inside in
    let same : take place (take place bytes) ≡ take place bytes = take-take place place bytes (omega arith) in
    decimal-done (take place bytes) place id (ap (λ n. n == 0) long ∙ some) (omega arith) small (spelled ∙ ap value_of (sym same)) (ap (list_all is_ascii_digit) same ∙ digits) ∙ ap (λ n. decimal_of (take n bytes)) (sym is)
