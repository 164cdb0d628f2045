-- A buffer of a fixed room.
use Rattle.std.specs.Prelude.{ℕ, List}

-- what a buffer holds, and how many bytes it can hold
pub record Buf : Type 0 where
  pub content : List ℕ
  pub limit : ℕ
