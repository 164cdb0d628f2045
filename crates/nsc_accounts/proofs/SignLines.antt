-- The sign of a line, by what stands after its white space.
use Rattle.std.proofs.Common.{◌≡◌, ℕ, ◌+◌, ◌≤◌, true, false, if◌then◌else◌, List, [], ◌∷◌, None, drop, slice_range, refl, ◌∙◌, ap}
use Rattle.nsc_base.specs.declared.span.Span.{Span}
use Rattle.nsc_base.specs.Text.{part, trimmed}
use Rattle.nsc_base.proofs.Places.{range-drop}
use Rattle.nsc_model.specs.Compat.{sayings, sayings_by}
use Rattle.nsc_model.specs.Users.{has_zero}
use Rattle.nsc_accounts.specs.Matters.{sign_name}

-- what stands after the first byte of a part
pub after_first : (text : List ℕ) (all rest : Span) → all.from + 1 ≤ all.to → rest.from ≡ all.from + 1 → rest.to ≡ all.to → (b : ℕ) (bytes : List ℕ) → part text all ≡ b ∷ bytes → part text rest ≡ bytes
after_first text all rest filled from to b bytes is =
    ap (λ n. slice_range text n rest.to) from ∙ ap (slice_range text (all.from + 1)) to ∙ range-drop text all.from 1 all.to filled ∙ ap (drop 1) is

-- if what stands after the white space has no sign, the line has none
pub no_sign : (line black : List ℕ) → black ≡ trimmed line → None ≡ sign_name (sayings_by line black) → None ≡ sign_name (sayings line)
no_sign line black is none =
    elim (has_zero line) as (λ v. None ≡ sign_name (if v then [] else sayings_by line (trimmed line))) [
      | true ↦ refl
      | false ↦ none ∙ ap (λ (bytes : List ℕ). sign_name (sayings_by line bytes)) is
    ]
