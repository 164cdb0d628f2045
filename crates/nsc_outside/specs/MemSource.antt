-- A source in memory.
use Rattle.std.specs.Prelude.{ℕ, List}
use Rattle.nsc_outside.specs.CallPlan.{CallPlan}

-- the bytes that it has left, and which of its calls fail
pub record MemSource : Type 0 where
  pub left : List ℕ
  pub plan : CallPlan
