-- Which reads of a set of files fail.
use Rattle.std.specs.Prelude.{◌≡◌, ℕ, Bool, List, []}
use Rattle.atomic_table.specs.Seated.{TableId}
use Rattle.nsc_outside.specs.Numbers.{Draws, is_failing}

-- the numbers of those that fail, the numbering that these are of, and the numbers that the set's own reads drew from it
pub record ReadPlan : Type 0 where
  pub failing : List ℕ
  pub numbering : TableId
  pub numbers : List ℕ

-- of a numbering these reads fail, and the set made none so far
abbrev pub new_plan : List ℕ → TableId → ReadPlan
new_plan failing numbering = record { failing = failing; numbering = numbering; numbers = [] }

-- a read drew its number, the next of its numbering, and failed exactly where that is one of those that fail
pub record FailsAsPlanned (before after : ReadPlan) (failed : Bool) : Type 0 where
  pub draws : Draws before.numbers after.numbers (λ number. failed ≡ is_failing before.failing number)
  pub same : after ≡ record before { numbers = after.numbers }
