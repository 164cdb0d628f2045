-- A part of a needle that is looked for in place of the whole, where the case of ASCII letters does not count.
use Rattle.std.specs.Prelude.{◌≡◌, ℕ, ◌+◌, ◌≤◌, true, List, [], ◌∷◌, length, slice_range}
use Rattle.std.specs.Str.{str_eq_ignore_ascii_case}
use Rattle.nsc_base.specs.declared.any_case.Sought.{Sought}
use Rattle.nsc_base.specs.declared.any_case.Sought.TheVariants.{Caseless, Either}

-- only the text itself is the same as it where the case of ASCII letters does not count
abbrev pub HasNoCase : List ℕ → Type 0
HasNoCase text = (other : List ℕ) → str_eq_ignore_ascii_case other text ≡ true → other ≡ text

-- the text that is looked for
abbrev pub sought_text : Sought → List ℕ
sought_text (Caseless text) = text
sought_text (Either byte) = byte ∷ []

-- what is looked for as it stands is the same in either case
abbrev pub NeedsNoCase : Sought → Type 0
NeedsNoCase (Caseless text) = HasNoCase text
NeedsNoCase (Either byte) = Unit {0}

-- the text stands in a needle at a place
pub record IsPartOf (needle : List ℕ) (place : ℕ) (text : List ℕ) : Type 0 where
  pub inside : place + length text ≤ length needle
  pub same : slice_range needle place (place + length text) ≡ text
