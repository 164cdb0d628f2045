-- A listener on which no connection comes.
use Rattle.std.specs.Prelude.{ℕ, List}

-- what each of the peers sends that are still to be reached, and how many calls have failed
pub record CalmListener : Type 0 where
  pub peers : List (List ℕ)
  pub faults : ℕ
