-- The longest run of zeros is a run of zeros.
use Rattle.std.proofs.Common.{◌≡◌, ℕ, suc, ◌+◌, ◌≤◌, ◌==◌, if◌then◌else◌, nat_lt, Bool, true, false, List, [], ◌∷◌, ◌++◌, length, take, drop, replicate, refl, sym, ◌∙◌, ap, subst, arith}
use Rattle.std.proofs.lemmas.Bool.{eqb-true}
use Rattle.std.proofs.lemmas.List.{take-append-drop, drop-drop}
use Rattle.nsc_base.specs.Addresses.{zeros_at_front, Run, longest_run}

-- `count` zeros stand after `before` items
pub record HasZeros (xs : List ℕ) (before count : ℕ) : Type 0 where
  pub within : before + count ≤ length xs
  pub zeros : take count (drop before xs) ≡ replicate count 0

front_zeros : (xs : List ℕ) → HasZeros xs 0 (zeros_at_front xs)
front_zeros [] = record { within = omega arith; zeros = refl }
front_zeros (x ∷ xs) = by (x == 0) refl (front_zeros xs)
  where
    by : (test : Bool) → (x == 0) ≡ test → HasZeros xs 0 (zeros_at_front xs) → HasZeros (x ∷ xs) 0 (if test then zeros_at_front xs + 1 else 0)
    by true e later =
        let more : suc (zeros_at_front xs) ≡ zeros_at_front xs + 1 = omega arith in
        let first : x ≡ 0 = eqb-true x 0 e in
        subst (λ (count : ℕ). HasZeros (x ∷ xs) 0 count) more (record { within = omega (arith, later.within); zeros = λ i. first i ∷ later.zeros i })
    by false e later = record { within = omega arith; zeros = refl }

later_zeros : (x : ℕ) (xs : List ℕ) (before count : ℕ) → HasZeros xs before count → HasZeros (x ∷ xs) (before + 1) count
later_zeros x xs before count later =
    let more : suc before ≡ before + 1 = omega arith in
    subst (λ (n : ℕ). HasZeros (x ∷ xs) n count) more (record { within = omega (arith, later.within); zeros = later.zeros })

abbrev IsRun : List ℕ → Run → Type 0
IsRun xs run = HasZeros xs run.before run.count

pub longest_is_run : (xs : List ℕ) → IsRun xs (longest_run xs)
longest_is_run [] = record { within = omega arith; zeros = refl }
longest_is_run (x ∷ xs) = by (nat_lt (zeros_at_front (x ∷ xs)) (longest_run xs).count) (front_zeros (x ∷ xs)) (longest_is_run xs)
  where
    by : (test : Bool) → HasZeros (x ∷ xs) 0 (zeros_at_front (x ∷ xs)) → IsRun xs (longest_run xs)
        → IsRun (x ∷ xs) (if test then record { before = (longest_run xs).before + 1; count = (longest_run xs).count } else record { before = 0; count = zeros_at_front (x ∷ xs) })
    by true here later = later_zeros x xs (longest_run xs).before (longest_run xs).count later
    by false here later = here

-- a list around its zeros
pub around_zeros : (xs : List ℕ) (before count : ℕ) → HasZeros xs before count → xs ≡ take before xs ++ (replicate count 0 ++ drop (before + count) xs)
around_zeros xs before count run =
    let rest : drop count (drop before xs) ≡ drop (before + count) xs = drop-drop count before xs in
    let inner : drop before xs ≡ replicate count 0 ++ drop (before + count) xs = sym (take-append-drop count (drop before xs)) ∙ (λ i. run.zeros i ++ rest i) in
    sym (take-append-drop before xs) ∙ ap (λ ys. take before xs ++ ys) inner
