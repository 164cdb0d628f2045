-- Each step of a handle keeps the rule of its flag.
use Rattle.std.proofs.Common.{◌≡◌, ℕ, zero, suc, ◌<◌, ◌==◌, not, Bool, true, false, true≢false, List, [], ◌∷◌, IsTrue, refl, sym, ap, subst, ⊎_elim, arith, slice_set, slice_index}
use Rattle.std.specs.Bool.{OnTrue}
use Rattle.std.proofs.lemmas.Bool.{ne_eqb}
use mathlib.Core.Option.{some}
use lib.ListN.{get_elem?}
use Rattle.atomic_table.specs.Table.{State, Allows, Enters, keeps}
use Rattle.atomic_table.proofs.Lists.{at_set, at_snoc}
use Rattle.nsc_outside.specs.Release.{IsKnown}

abbrev Rule : State (Unit {0}) Bool → Type 0
Rule state = IsKnown state.words state.views

off : false ≡ true → ⊥
off e = true≢false (sym e)

above_zero : (n : ℕ) → not (n == 0) ≡ true → 0 < n
above_zero zero e = absurd (off e)
above_zero (suc n) e = omega arith

not_zero : (n : ℕ) → 0 < n → not (n == 0) ≡ true
not_zero n above = ap not (ne_eqb n 0 (λ e. omega arith))

-- a new handle knows nothing
pub begins : (slots : ℕ) → Enters Rule slots 0 (λ found w. w ≡ false)
begins slots state kept count within = (
  false,
  record {
    word = kept.word;
    counted = kept.counted;
    known = λ handle e. ⊎_elim (λ (was : get_elem? state.views handle ≡ some true). kept.known handle was) (λ (same : false ≡ true). absurd (off same)) (at_snoc state.views false true handle e);
  },
  refl,
)

-- a handle that looked at the flag knows what it found; one that knew that the flag is set finds it set
pub looks : (slots seat : ℕ) (knew : Bool) (carried : List (ℕ × Unit {0}))
    → Allows Rule slots seat (knew, carried) 0 (λ found. found) (λ found after. (after.0 ≡ not (found == 0)) × OnTrue knew (IsTrue after.0))
looks slots seat knew carried state kept count at within =
    let found : slice_index state.words 0 ≡ kept.word = ap (λ (words : List ℕ). slice_index words 0) kept.counted in
    let knows = not (slice_index state.words 0 == 0) in
    let is_so : knows ≡ true → 0 < kept.word = λ told. subst (λ (n : ℕ). 0 < n) found (above_zero (slice_index state.words 0) told) in (
      knows,
      keeps,
      tt,
      record {
        word = kept.word;
        counted =
            let Counted : List ℕ → Type 0 = λ words. slice_set words 0 (slice_index words 0) ≡ kept.word ∷ [] in
            subst Counted (sym kept.counted) refl;
        known = λ handle e. ⊎_elim (λ (mine : (handle ≡ seat) × (knows ≡ true)). is_so mine.1) (λ other. kept.known handle other.1) (at_set state.views seat handle knows true e);
      },
      (refl, stays knew at),
    )
  where
    stays : (knew : Bool) → get_elem? state.views seat ≡ some knew → OnTrue knew (IsTrue (not (slice_index state.words 0 == 0)))
    stays true at =
        let found : slice_index state.words 0 ≡ kept.word = ap (λ (words : List ℕ). slice_index words 0) kept.counted in
        not_zero (slice_index state.words 0) (subst (λ (n : ℕ). 0 < n) (sym found) (kept.known seat at))
    stays false at = tt
