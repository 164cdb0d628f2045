-- Fields read back from the bytes that spell them, and spelled again.
use Rattle.std.proofs.Common.{◌≡◌, ℕ, ◌+◌, ◌-◌, ◌^◌, ◌<◌, ◌≤◌, List, ◌++◌, length, get_or, take, drop, refl, sym, ap, subst, ◌∙◌, append_assoc, arith, inl, inr}
use Rattle.std.proofs.lemmas.Bool.{cases_lt}
use Rattle.std.proofs.lemmas.List.{take-append-drop, drop-drop, drop-take, drop_at, length-drop, length-take, get_or-drop, get_or-take, get_or_past}
use Rattle.std.proofs.lemmas.Nat.{le_bytes_4, le_bytes_8}
use Rattle.byteorder.specs.Endian.{little_from, little_number}
use Rattle.byteorder.specs.Numbers.{little_from-take, little_from-lt}
use Rattle.nsc_model.specs.Wire.{field, field_in}
use Rattle.nsc_model.specs.Image.{wide_field}
use Rattle.nsc_image.specs.Reading.{wide_field_in}

-- numbers that are bytes
abbrev pub IsBytes : List ℕ → Type 0
IsBytes bytes = (i : ℕ) → get_or bytes i 0 < 256

pub IsBytes-drop : (n : ℕ) (bytes : List ℕ) → IsBytes bytes → IsBytes (drop n bytes)
IsBytes-drop n bytes h i = rw get_or-drop (h (n + i))

pub IsBytes-take : (n : ℕ) (bytes : List ℕ) → IsBytes bytes → IsBytes (take n bytes)
IsBytes-take n bytes h i =
    elim (cases_lt i n) [
      | inl lt ↦ rw (get_or-take n bytes i 0 lt) (h i)
      | inr le ↦ rw (get_or_past (take n bytes) i 0 (omega (arith, length-take n bytes))) (omega arith)
    ]

-- what stands behind a front
pub IsBytes-behind : (bytes front rest : List ℕ) → bytes ≡ front ++ rest → IsBytes bytes → IsBytes rest
IsBytes-behind bytes front rest parts h =
    let behind : drop (length front) bytes ≡ rest = ap (drop (length front)) parts ∙ drop_at front rest (length front) refl in
    subst IsBytes behind (IsBytes-drop (length front) bytes h)

-- a piece and what follows it
pub then : (a x b y c : List ℕ) → a ≡ x ++ b → b ≡ y ++ c → a ≡ (x ++ y) ++ c
then a x b y c p q = p ∙ ap (λ (t : List ℕ). x ++ t) q ∙ sym (append_assoc x y c)

-- the bytes from a place on
pub piece_at : (size at : ℕ) (bytes : List ℕ) → drop at bytes ≡ take size (drop at bytes) ++ drop (at + size) bytes
piece_at size at bytes = sym (take-append-drop size (drop at bytes)) ∙ ap (λ (t : List ℕ). take size (drop at bytes) ++ t) (drop-drop size at bytes)

-- what is read of bytes is spelled by them
field_back : (bytes : List ℕ) → IsBytes bytes → 4 ≤ length bytes → field (little_number 4 bytes) ≡ take 4 bytes
field_back bytes fits long =
    let four : length (take 4 bytes) ≡ 4 = omega (arith, length-take 4 bytes) in
    let same : little_from 0 4 (take 4 bytes) ≡ little_from 0 4 bytes = little_from-take 0 4 4 bytes (omega arith) in
    le_bytes_4 (take 4 bytes) (little_number 4 bytes) four (IsBytes-take 4 bytes fits) (sym same ∙ omega arith)

wide_back : (bytes : List ℕ) → IsBytes bytes → 8 ≤ length bytes → wide_field (little_number 8 bytes) ≡ take 8 bytes
wide_back bytes fits long =
    let eight : length (take 8 bytes) ≡ 8 = omega (arith, length-take 8 bytes) in
    let same : little_from 0 8 (take 8 bytes) ≡ little_from 0 8 bytes = little_from-take 0 8 8 bytes (omega arith) in
    le_bytes_8 (take 8 bytes) (little_number 8 bytes) eight (IsBytes-take 8 bytes fits) (sym same ∙ omega arith)

-- the field at a place, spelled, and what follows it
pub field_at : (at : ℕ) (bytes : List ℕ) → IsBytes bytes → at + 4 ≤ length bytes → drop at bytes ≡ field (field_in bytes at) ++ drop (at + 4) bytes
field_at at bytes fits long =
    let back : field (field_in bytes at) ≡ take 4 (drop at bytes) = field_back (drop at bytes) (IsBytes-drop at bytes fits) (omega (arith, length-drop at bytes)) in
    piece_at 4 at bytes ∙ ap (λ (t : List ℕ). t ++ drop (at + 4) bytes) (sym back)

pub wide_at : (at : ℕ) (bytes : List ℕ) → IsBytes bytes → at + 8 ≤ length bytes → drop at bytes ≡ wide_field (wide_field_in bytes at) ++ drop (at + 8) bytes
wide_at at bytes fits long =
    let back : wide_field (wide_field_in bytes at) ≡ take 8 (drop at bytes) = wide_back (drop at bytes) (IsBytes-drop at bytes fits) (omega (arith, length-drop at bytes)) in
    piece_at 8 at bytes ∙ ap (λ (t : List ℕ). t ++ drop (at + 8) bytes) (sym back)

-- what is read fits its field
pub field_lt : (at : ℕ) (bytes : List ℕ) → IsBytes bytes → field_in bytes at < 2 ^ 32
field_lt at bytes fits = little_from-lt 0 4 (drop at bytes) (IsBytes-drop at bytes fits)

pub wide_lt : (at : ℕ) (bytes : List ℕ) → IsBytes bytes → wide_field_in bytes at < 2 ^ 64
wide_lt at bytes fits = little_from-lt 0 8 (drop at bytes) (IsBytes-drop at bytes fits)

-- a field within a front of the bytes
pub field_in-take : (at size : ℕ) (bytes : List ℕ) → at + 4 ≤ size → field_in (take size bytes) at ≡ field_in bytes at
field_in-take at size bytes within =
    let split : size ≡ at + (size - at) = omega arith in
    let moved : drop at (take size bytes) ≡ take (size - at) (drop at bytes) = ap (λ n. drop at (take n bytes)) split ∙ drop-take at (size - at) bytes in
    ap (little_number 4) moved ∙ little_from-take 0 4 (size - at) (drop at bytes) (omega arith)

-- one more piece behind those that were put
pub more : (old a x new y : List ℕ) → old ≡ a ++ x → new ≡ old ++ y → new ≡ a ++ (x ++ y)
more old a x new y e f = f ∙ ap (λ (t : List ℕ). t ++ y) e ∙ append_assoc a x y
