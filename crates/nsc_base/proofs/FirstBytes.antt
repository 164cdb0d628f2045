-- A text cut at the first byte of a kind, by the place that a search gives.
use Rattle.std.proofs.Common.{◌≡◌, ◌≢◌, ℕ, suc, ◌+◌, ◌-◌, ◌<◌, ◌≤◌, ◌==◌, Bool, true, false, not, if◌then◌else◌, List, [], ◌∷◌, length, take, drop, slice_range, Some, None, refl, sym, ◌∙◌, ap, arith}
use Rattle.std.specs.List.{after_first, before_first, list_any, position_or_len}
use Rattle.std.proofs.lemmas.List.{take_all}
use Rattle.std.proofs.lemmas.List.Folds.{length-prefix_len, list_any_at}
use Rattle.std.proofs.lemmas.List.Sums.{fails_before_first, passes_at_first, position_or_len_is}
use Rattle.memchr.specs.Find.{IsFirstByte}
use Rattle.nsc_base.specs.declared.span.Span.{Span}
use Rattle.nsc_base.specs.Text.{IsSplit, LiesIn, is_white, part, trimmed}
use Rattle.nsc_base.proofs.Pieces.{none_cuts, or_false}
use Rattle.nsc_base.proofs.Places.{not_true, range-drop, range-length}

-- the place that a search gives is where the text is cut
pub cut-found : (test : ℕ → Bool) (bytes : List ℕ) (n : ℕ) → IsFirstByte test bytes (Some n) → position_or_len test bytes ≡ n
cut-found test bytes n found = position_or_len_is test bytes n 0 (omega (arith, found.0.high)) (λ k l. not_true _ (found.0.before k (omega arith) l)) (λ l. found.1)

pub cut-missing : (test : ℕ → Bool) (bytes : List ℕ) → IsFirstByte test bytes None → position_or_len test bytes ≡ length bytes
cut-missing test bytes missing = position_or_len_is test bytes (length bytes) 0 (omega arith) (λ k l. not_true _ (missing k (omega arith) l)) (λ l. absurd (omega arith))

pub front-found : (test : ℕ → Bool) (bytes : List ℕ) (n : ℕ) → IsFirstByte test bytes (Some n) → take n bytes ≡ before_first test bytes
front-found test bytes n found = ap (λ k. take k bytes) (sym (cut-found test bytes n found))

pub front-missing : (test : ℕ → Bool) (bytes : List ℕ) → IsFirstByte test bytes None → bytes ≡ before_first test bytes
front-missing test bytes missing = sym (ap (λ k. take k bytes) (cut-missing test bytes missing) ∙ take_all (length bytes) bytes (omega arith))

-- a text whose front up to a byte is the whole has no such byte
pub no_byte : (test : ℕ → Bool) (bytes : List ℕ) → position_or_len test bytes ≡ length bytes → list_any test bytes ≡ false
no_byte test bytes whole = none_cuts test bytes (λ k below. fails_before_first test bytes k 0 (omega arith))

some_byte : (test : ℕ → Bool) (bytes : List ℕ) → position_or_len test bytes < length bytes → list_any test bytes ≡ true
some_byte test bytes below = list_any_at test bytes (position_or_len test bytes) 0 below (passes_at_first test bytes 0 below)

-- how far the front of a part goes
front_place : (test : ℕ → Bool) (text : List ℕ) (within front : Span) → within.to ≤ length text → LiesIn within front → front.from ≡ within.from → part text front ≡ before_first test (part text within) → front.to ≡ within.from + position_or_len test (part text within)
front_place test text within front inside lies begins is =
    let bound : front.to ≤ length text = omega (arith, lies.ends) in
    let size : front.to - front.from ≡ position_or_len test (part text within) = sym (range-length text front.from front.to bound) ∙ ap length is ∙ length-prefix_len (λ x. not (test x)) (part text within) in
    omega (arith, size, lies.ordered)

pub no_split : (byte : ℕ) (text : List ℕ) (within front : Span) → within.to ≤ length text → LiesIn within front → front.from ≡ within.from → part text front ≡ before_first (λ b. b == byte) (part text within) → front.to ≡ within.to → list_any (λ b. b == byte) (part text within) ≡ false
no_split byte text within front inside lies begins is whole =
    let place = front_place (λ b. b == byte) text within front inside lies begins is in
    no_byte (λ b. b == byte) (part text within) (omega (arith, place, range-length text within.from within.to inside))

pub split : (byte : ℕ) (text : List ℕ) (within front rest : Span) → within.to ≤ length text → LiesIn within front → front.from ≡ within.from → part text front ≡ before_first (λ b. b == byte) (part text within) → front.to ≢ within.to → rest.from ≡ front.to + 1 → rest.to ≡ within.to → IsSplit byte text within front rest
split byte text within front rest inside lies begins is more from_is to_is =
    let test = λ (b : ℕ). b == byte in
    let bytes = part text within in
    let place = front_place test text within front inside lies begins is in
    let size = range-length text within.from within.to inside in
    let past : rest.from ≡ within.from + (position_or_len test bytes + 1) = omega (arith, place, from_is) in
    record {
      has = some_byte test bytes (omega (arith, place, size, more, lies.ends));
      front_is = is;
      rest_is = ap (slice_range text rest.from) to_is ∙ ap (λ k. slice_range text k within.to) past ∙ range-drop text within.from (position_or_len test bytes + 1) within.to (omega (arith, place, more, lies.ends));
      front_in = lies;
      rest_in = record { begins = omega (arith, past); ordered = omega (arith, from_is, to_is, more, lies.ends); ends = omega (arith, to_is) };
      begins = begins;
      next = from_is;
      ends = to_is;
    }

-- what is left after the white space at the front
trimmed-drop : (bytes : List ℕ) → (w : ℕ) × ((w + length (trimmed bytes) ≡ length bytes) × (drop w bytes ≡ trimmed bytes))
trimmed-drop [] = (0, (refl, refl))
trimmed-drop (b ∷ bytes) =
    let later = trimmed-drop bytes in
    elim (is_white b) as (λ v. (w : ℕ) × ((w + length (if v then trimmed bytes else b ∷ bytes) ≡ length (b ∷ bytes)) × (drop w (b ∷ bytes) ≡ (if v then trimmed bytes else b ∷ bytes)))) [
      | true ↦ (suc later.0, (omega (arith, later.1.0), later.1.1))
      | false ↦ (0, (omega arith, refl))
    ]

pub trimmed_part : (text : List ℕ) (within rest : Span) → within.from ≤ within.to → within.to ≤ length text → rest.from ≡ within.to - length (trimmed (part text within)) → rest.to ≡ within.to → part text rest ≡ trimmed (part text within)
trimmed_part text within rest ordered inside from_is to_is =
    let known = trimmed-drop (part text within) in
    let size = range-length text within.from within.to inside in
    let place : rest.from ≡ within.from + known.0 = omega (arith, from_is, known.1.0, size) in
    ap (slice_range text rest.from) to_is ∙ ap (λ k. slice_range text k within.to) place ∙ range-drop text within.from known.0 within.to (omega (arith, known.1.0, size)) ∙ known.1.1

-- where there is no such byte, nothing stands after it
pub after-none : (test : ℕ → Bool) (bytes : List ℕ) → list_any test bytes ≡ false → after_first test bytes ≡ []
after-none test [] none = refl
after-none test (b ∷ bytes) none =
    let parts = or_false (test b) (list_any test bytes) none in
    let place : 1 + position_or_len test bytes + 1 ≡ suc (position_or_len test bytes + 1) = omega arith in
    rw parts.0 (ap (λ n. drop n (b ∷ bytes)) place ∙ after-none test bytes parts.1)
