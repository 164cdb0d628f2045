-- A text without a zero byte has none in its parts: in the fields of a line, in its words, and before a remark.
use Rattle.std.proofs.Common.{◌≡◌, ◌≢◌, ℕ, zero, suc, Bool, true, false, ◌==◌, ◌||◌, if◌then◌else◌, List, [], ◌∷◌, All, filter, take, drop, refl, arith}
use Rattle.std.specs.List.{AllByRecursion}
use Rattle.std.proofs.lemmas.Bool.Decides.{nat_tests}
use Rattle.std.proofs.lemmas.List.Elements.{All-from_recursion}
use Rattle.nsc_base.specs.Text.{is_filled, is_white, onto_first, pieces, trimmed}
use Rattle.nsc_model.specs.Users.{has_zero}
use Rattle.nsc_model.specs.Wire.{IsText}
use Rattle.nsc_laws.proofs.SentLists.{all_weaker, filter_keeps}

-- no byte is zero
abbrev pub IsClean : List ℕ → Type 0
IsClean text = AllByRecursion (λ b. b ≢ 0) text

pub or_false : (a b : Bool) → (a || b) ≡ false → (a ≡ false) × (b ≡ false)
or_false true b h = absurd cc
or_false false b h = (refl, h)

pub clean_line : (line : List ℕ) → has_zero line ≡ false → IsClean line
clean_line [] h = tt
clean_line (b ∷ bytes) h =
    let parts = or_false (b == 0) (has_zero bytes) h in
    let first : b ≢ 0 = grind (arith, nat_tests) in
    (first, clean_line bytes parts.1)

pub is_text : (text : List ℕ) → IsClean text → IsText text
is_text text clean = All-from_recursion (λ b. b ≢ 0) text clean

pub are_texts : (texts : List (List ℕ)) → AllByRecursion IsClean texts → All IsText texts
are_texts texts clean = All-from_recursion IsText texts (all_weaker IsClean IsText is_text texts clean)

pub clean_take : (n : ℕ) (text : List ℕ) → IsClean text → IsClean (take n text)
clean_take zero text clean = tt
clean_take (suc n) [] clean = tt
clean_take (suc n) (b ∷ bytes) clean = (clean.0, clean_take n bytes clean.1)

pub clean_drop : (n : ℕ) (text : List ℕ) → IsClean text → IsClean (drop n text)
clean_drop zero text clean = clean
clean_drop (suc n) [] clean = tt
clean_drop (suc n) (b ∷ bytes) clean = clean_drop n bytes clean.1

pub clean_trimmed : (text : List ℕ) → IsClean text → IsClean (trimmed text)
clean_trimmed [] clean = tt
clean_trimmed (b ∷ bytes) clean = elim (is_white b) as (λ v. IsClean (if v then trimmed bytes else b ∷ bytes)) [ true ↦ clean_trimmed bytes clean.1 | false ↦ clean ]

onto_clean : (b : ℕ) (texts : List (List ℕ)) → b ≢ 0 → AllByRecursion IsClean texts → AllByRecursion IsClean (onto_first b texts)
onto_clean b [] some clean = ((some, tt), tt)
onto_clean b (text ∷ texts) some clean = ((some, clean.0), clean.1)

pub clean_pieces : (cuts : ℕ → Bool) (text : List ℕ) → IsClean text → AllByRecursion IsClean (pieces cuts text)
clean_pieces cuts [] clean = (tt, tt)
clean_pieces cuts (b ∷ bytes) clean =
    let later = clean_pieces cuts bytes clean.1 in
    elim (cuts b) as (λ v. AllByRecursion IsClean (if v then [] ∷ pieces cuts bytes else onto_first b (pieces cuts bytes))) [
      | true ↦ (tt, later)
      | false ↦ onto_clean b (pieces cuts bytes) clean.0 later
    ]

pub clean_filled : (cuts : ℕ → Bool) (text : List ℕ) → IsClean text → AllByRecursion IsClean (filter is_filled (pieces cuts text))
clean_filled cuts text clean = filter_keeps IsClean is_filled (pieces cuts text) (clean_pieces cuts text clean)
