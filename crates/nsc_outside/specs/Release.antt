-- A flag that is set once, by any of the threads that share it.
use Rattle.std.specs.Prelude.{◌≡◌, ℕ, ◌<◌, Bool, true, List, [], ◌∷◌, IsTrue}
use Rattle.std.specs.Bool.{OnTrue}
use Rattle.atomic_table.specs.Seated.{TableId}
use mathlib.Core.Option.{some}
use lib.ListN.{get_elem?}

-- a handle on a flag: which flag it is, and whether the handle knows that it is set
pub record Release : Type 0 where
  pub flag : TableId
  pub is_set : Bool

-- of a flag, which is set where its word is not 0, a handle knows no more than is so
pub record IsKnown (words : List ℕ) (handles : List Bool) : Type 0 where
  pub word : ℕ
  pub counted : words ≡ word ∷ []
  pub known : (handle : ℕ) → get_elem? handles handle ≡ some true → 0 < word

-- it is the same flag, and the handle knows still what it knew
pub record IsLater (before after : Release) : Type 0 where
  pub flag : after.flag ≡ before.flag
  pub known : OnTrue before.is_set (IsTrue after.is_set)
