-- Texts that stand one after another in a run of bytes.
use Rattle.std.specs.Prelude.{◌≡◌, ℕ, ◌+◌, ◌-◌, List, [], ◌∷◌, ◌++◌, flat_map, length, slice_range}

-- a text with a zero byte behind it
abbrev pub ended : List ℕ → List ℕ
ended text = text ++ 0 ∷ []

-- where texts end behind their zero bytes, if the first of them begins at a place
abbrev pub ends_of : ℕ → List (List ℕ) → List ℕ
ends_of from [] = []
ends_of from (text ∷ texts) = (from + length text + 1) ∷ ends_of (from + length text + 1) texts

-- the texts of a run that end at these places, if the first of them begins at a place
abbrev pub texts_ended : List ℕ → ℕ → List ℕ → List (List ℕ)
texts_ended run from [] = []
texts_ended run from (end ∷ ends) = slice_range run from (end - 1) ∷ texts_ended run end ends

-- a run has the texts that end at these places, and nothing else
pub record IsRun (run ends : List ℕ) : Type 0 where
  pub run_is : run ≡ flat_map ended (texts_ended run 0 ends)
  pub ends_are : ends ≡ ends_of 0 (texts_ended run 0 ends)
