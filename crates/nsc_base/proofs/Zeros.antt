-- What a search for a byte tells of the test of all bytes.
use Rattle.std.proofs.Common.{◌≡◌, ℕ, suc, zero, ◌<◌, Bool, true, false, ◌||◌, List, [], ◌∷◌, length, get_or, Option, Some, None, refl, sym, arith}
use Rattle.std.specs.List.{list_any}
use Rattle.std.specs.Option.{is_some}
use Rattle.std.proofs.lemmas.Bool.{false_from_ne_true}
use Rattle.memchr.specs.Find.{IsFirstByte}
use Rattle.nsc_base.proofs.Pieces.{none_cuts}

or_true : (a b : Bool) → b ≡ true → (a || b) ≡ true
or_true true b h = refl
or_true false b h = h

-- a byte that passes is among the bytes
passes_any : (test : ℕ → Bool) (xs : List ℕ) (k : ℕ) → k < length xs → test (get_or xs k 0) ≡ true → list_any test xs ≡ true
passes_any test [] k l h = absurd (omega arith)
passes_any test (x ∷ xs) zero l h = rw h refl
passes_any test (x ∷ xs) (suc k) l h = or_true (test x) (list_any test xs) (passes_any test xs k (omega arith) h)

pub found_is_any : (test : ℕ → Bool) (xs : List ℕ) (r : Option ℕ) → IsFirstByte test xs r → is_some r ≡ list_any test xs
found_is_any test xs None missing = sym (none_cuts test xs (λ k h. false_from_ne_true _ (missing k (omega arith) h)))
found_is_any test xs (Some k) found = sym (passes_any test xs k found.0.high found.1)
