-- What a search that finds nothing says.
use Rattle.std.proofs.Common.{◌≡◌, ℕ, ◌+◌, ◌-◌, ◌<◌, ◌≤◌, true, false, not, ◌↔◌, List, [], ◌∷◌, length, take, drop, get_or, Option, Some, None, Bool, IsTrue, drop-cons, length-drop, refl, ◌∙◌, ap, arith}
use Rattle.std.specs.Option.{is_some}
use Rattle.std.proofs.lemmas.List.{drop_all, ext_get_or, get_or-drop, get_or-take, length-take-le}
use Rattle.std.proofs.lemmas.Slice.Eq.{bytes_eq-Decides}
use Rattle.memchr.specs.Find.{FindsNeedle, OccursAt}
use Rattle.nsc_base.specs.declared.search.Case.TheVariants.{Counts}
use Rattle.nsc_base.specs.Found.{Lacks, StandsAt}
use Rattle.nsc_base.proofs.LineStarts.{none_before}

stands : (needle text : List ℕ) (k : ℕ) → OccursAt text needle k → StandsAt Counts needle text (record { from = k; to = k + length needle })
stands needle text k occurs =
    let size : k + length needle - k ≡ length needle = omega arith in
    let left : length needle ≤ length (drop k text) = omega (arith, occurs.fits, length-drop k text) in
    let piece : take (length needle) (drop k text) ≡ needle =
    ext_get_or 0 (take (length needle) (drop k text)) needle (length-take-le (length needle) (drop k text) left) (λ i below.
    let short : i < length needle = omega (arith, length-take-le (length needle) (drop k text) left) in
    get_or-take (length needle) (drop k text) i 0 short ∙ get_or-drop k text i 0 ∙ occurs.reads i short) in
    let there : take (k + length needle - k) (drop k text) ≡ needle = ap (λ n. take n (drop k text)) size ∙ piece in
    record { ordered = omega arith; ends = occurs.fits; same = (bytes_eq-Decides (take (k + length needle - k) (drop k text)) needle).1 there }

-- a search finds nothing exactly where the text lacks the needle
pub finds_none : (needle text : List ℕ) (found : Option ℕ) (r : Bool) → FindsNeedle text needle 0 found → is_some found ≡ not r → IsTrue r ↔ Lacks Counts needle text
finds_none needle text None true finds is = (λ none. none_before needle text None finds, λ lack. refl)
finds_none needle text None false finds is = absurd (cc)
finds_none needle text (Some k) true finds is = absurd (cc)
finds_none needle text (Some k) false finds is = (λ none. absurd (cc), λ lack. absurd (lack (record { from = k; to = k + length needle }) (stands needle text k finds.1)))

-- the last four of sixteen
pub four_left : (xs : List ℕ) → length xs ≡ 16 → drop 12 xs ≡ get_or xs 12 0 ∷ get_or xs 13 0 ∷ get_or xs 14 0 ∷ get_or xs 15 0 ∷ []
four_left xs sixteen =
    drop-cons xs 12 0 (omega arith) ∙ ap (λ ys. get_or xs 12 0 ∷ ys) (drop-cons xs 13 0 (omega arith) ∙ ap (λ ys. get_or xs 13 0 ∷ ys) (drop-cons xs 14 0 (omega arith) ∙ ap (λ ys. get_or xs 14 0 ∷ ys) (drop-cons xs 15 0 (omega arith) ∙ ap (λ (ys : List ℕ). get_or xs 15 0 ∷ ys) (drop_all 16 xs (omega arith)))))
