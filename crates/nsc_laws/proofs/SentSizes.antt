-- How much room the parts of a text take, each with a separator, and how much what is sent of them.
use Rattle.std.proofs.Common.{◌≡◌, ℕ, ◌+◌, ◌*◌, ◌≤◌, Bool, true, false, cond, ◌==◌, if◌then◌else◌, List, [], ◌∷◌, filter, flat_map, Option, Some, None, length, refl, arith, length-append}
use Rattle.std.specs.List.{cons_option, filter_map}
use Rattle.nsc_base.specs.Text.{is_filled, is_white, lines_of, onto_first, pieces, trimmed}
use Rattle.nsc_model.specs.Wire.{text, text_len}

abbrev pub size_of : List (List ℕ) → ℕ
size_of [] = 0
size_of (text ∷ texts) = length text + 1 + size_of texts

onto_size : (b n : ℕ) (texts : List (List ℕ)) → size_of texts ≤ n + 1 → size_of (onto_first b texts) ≤ n + 1 + 1
onto_size b n [] fits = omega arith
onto_size b n (text ∷ texts) fits = omega (arith, fits)

-- the pieces of a text have its bytes, and so have its lines
pub pieces_size : (cuts : ℕ → Bool) (bytes : List ℕ) → size_of (pieces cuts bytes) ≤ length bytes + 1
pieces_size cuts [] = omega arith
pieces_size cuts (b ∷ bytes) =
    let later = pieces_size cuts bytes in
    elim (cuts b) as (λ v. size_of (if v then [] ∷ pieces cuts bytes else onto_first b (pieces cuts bytes)) ≤ length (b ∷ bytes) + 1) [
      | true ↦ omega (arith, later)
      | false ↦ omega (arith, onto_size b (length bytes) (pieces cuts bytes) later)
    ]

pub lines_size : (bytes : List ℕ) → size_of (lines_of bytes) ≤ length bytes + 1
lines_size [] = omega arith
lines_size (b ∷ bytes) =
    let later = lines_size bytes in
    elim (b == 10) as (λ v. size_of (if v then [] ∷ lines_of bytes else onto_first b (lines_of bytes)) ≤ length (b ∷ bytes) + 1) [
      | true ↦ omega (arith, later)
      | false ↦ omega (arith, onto_size b (length bytes) (lines_of bytes) later)
    ]

filter_size : (test : List ℕ → Bool) (texts : List (List ℕ)) → size_of (filter test texts) ≤ size_of texts
filter_size test [] = omega arith
filter_size test (text ∷ texts) =
    let later = filter_size test texts in
    elim (test text) as (λ v. size_of (cond v (text ∷ filter test texts) (filter test texts)) ≤ size_of (text ∷ texts)) [
      | true ↦ omega (arith, later)
      | false ↦ omega (arith, later)
    ]

pub filled_size : (cuts : ℕ → Bool) (bytes : List ℕ) → size_of (filter is_filled (pieces cuts bytes)) ≤ length bytes + 1
filled_size cuts bytes = omega (arith, filter_size is_filled (pieces cuts bytes), pieces_size cuts bytes)

pub trimmed_short : (bytes : List ℕ) → length (trimmed bytes) ≤ length bytes
trimmed_short [] = omega arith
trimmed_short (b ∷ bytes) =
    let later = trimmed_short bytes in
    elim (is_white b) as (λ v. length (if v then trimmed bytes else b ∷ bytes) ≤ length (b ∷ bytes)) [ true ↦ omega (arith, later) | false ↦ omega arith ]

-- the lengths and the texts of a list, as they are sent
pub sent_lengths : (texts : List (List ℕ)) → length (flat_map text_len texts) ≤ 4 * size_of texts
sent_lengths [] = omega arith
sent_lengths (t ∷ texts) = omega (arith, length-append (text_len t) (flat_map text_len texts), sent_lengths texts)

pub sent_texts : (texts : List (List ℕ)) → length (flat_map text texts) ≡ size_of texts
sent_texts [] = refl
sent_texts (t ∷ texts) = omega (arith, length-append (text t) (flat_map text texts), length-append t (0 ∷ []), sent_texts texts)

-- each entry has a line of its own
pub lines_few : {A : Type 0} (entry_of : List ℕ → Option A) (lines : List (List ℕ)) → length (filter_map entry_of lines) ≤ size_of lines
lines_few entry_of [] = omega arith
lines_few entry_of (line ∷ lines) =
    let later = lines_few entry_of lines in
    elim (entry_of line) as (λ o. length (cons_option o (filter_map entry_of lines)) ≤ size_of (line ∷ lines)) [ None ↦ omega (arith, later) | Some x ↦ omega (arith, later) ]

pub filter_few : {A : Type 0} (test : A → Bool) (xs : List A) → length (filter test xs) ≤ length xs
filter_few test [] = omega arith
filter_few test (x ∷ xs) =
    let later = filter_few test xs in
    elim (test x) as (λ v. length (cond v (x ∷ filter test xs) (filter test xs)) ≤ length (x ∷ xs)) [ true ↦ omega (arith, later) | false ↦ omega (arith, later) ]
