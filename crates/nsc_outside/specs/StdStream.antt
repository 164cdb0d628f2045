-- A stream of the standard library, in either direction.
use Rattle.std.specs.Prelude.{ℕ, List, Option}

-- what the library tells of its bytes, and the count of faults
pub record StdStream : Type 0 where
  pub bytes : Option (List ℕ)
  pub faults : ℕ
