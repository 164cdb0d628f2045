-- Names that are excluded.
use Rattle.std.specs.Prelude.{◌≡◌, ℕ, List}
use Rattle.nsc_model.specs.Compat.{is_excluded}

-- two lists exclude the same names
abbrev pub SameNames : List (List ℕ) → List (List ℕ) → Type 0
SameNames these those = (name : List ℕ) → is_excluded these name ≡ is_excluded those name
