-- Entries that end, the words that they took, and the memory for those that take their places.
use Rattle.std.proofs.Common.{◌≡◌, ℕ, ◌≤◌, ◌+◌, ◌==◌, Bool, true, false, cond, not, List, [], ◌∷◌, length, filter, map, Option, refl, ap, sym, subst, arith}
use Rattle.std.proofs.lemmas.List.{length-map}
use Rattle.std.specs.Prelude.{sum_by}
use Rattle.std.proofs.lemmas.List.Sums.{length-filter, count_by-le-length}
use Rattle.std.proofs.lemmas.List.Filters.{sum_by-filter_both, length-filter_both}
use Rattle.nsc_model.specs.Content.{Content}
use Rattle.nsc_model.specs.Machine.{Kept, entry_words, all_words, is_due, is_dropped, due_of, others_of, reloaded_of}
use Rattle.nsc_plain.specs.Insertion.{anew}

-- a list that is not empty
pub some_first : {X : Type 0} (xs : List X) → (length xs == 0) ≡ false → (x : X) × (rest : List X) × (xs ≡ x ∷ rest)
some_first [] e = absurd cc
some_first (x ∷ xs) e = (x, xs, refl)

-- where none passes a test, all fail it
none_first : {X : Type 0} (b : Bool) (x : X) (ys : List X) → cond b (x ∷ ys) ys ≡ [] → (b ≡ false) × (ys ≡ [])
none_first true x ys e = absurd cc
none_first false x ys e = (refl, e)

pub none_left : {X : Type 0} (p : X → Bool) (xs : List X) → filter p xs ≡ [] → filter (λ x. not (p x)) xs ≡ xs
none_left p [] e = refl
none_left {X} p (x ∷ xs) e =
    let h = none_first (p x) x (filter p xs) e in
    subst (λ (b : Bool). cond (not b) (x ∷ filter (λ y. not (p y)) xs) (filter (λ y. not (p y)) xs) ≡ x ∷ xs) (sym h.0) (ap (λ (ys : List X). x ∷ ys) (none_left p xs h.1))

filter_length : {X : Type 0} (p : X → Bool) (xs : List X) → length (filter p xs) ≤ length xs
filter_length p xs = rw length-filter (count_by-le-length p xs)

pub others_words : (now : ℕ) (entries : List Kept) → all_words (others_of now entries) ≤ all_words entries
others_words now entries =
    let both : sum_by (λ (k : Kept). entry_words k.entry) (filter (is_due now) entries) + all_words (others_of now entries) ≡ all_words entries = sum_by-filter_both (is_due now) (λ (k : Kept). not (is_due now k)) (λ k. refl) (λ (k : Kept). entry_words k.entry) entries in
    omega arith

-- those that stay and those that end
pub all_length : (now : ℕ) (entries : List Kept) → length (others_of now entries) + length (due_of now entries) ≡ length entries
all_length now entries =
    let both : length (due_of now entries) + length (others_of now entries) ≡ length entries = length-filter_both (is_due now) (λ (k : Kept). not (is_due now k)) (λ k. refl) entries in
    omega arith

-- there is one answer at most for each entry that ends
pub anew_length : (files : Content) (reloads : Option ℕ) (due : List Kept) → length (map (anew files) (reloaded_of reloads due)) ≤ length due
anew_length files reloads due =
    let some : length (reloaded_of reloads due) ≤ length due = filter_length (λ (k : Kept). not (is_dropped reloads k)) due in
    rw length-map some
