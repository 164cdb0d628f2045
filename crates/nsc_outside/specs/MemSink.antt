-- A sink in memory.
use Rattle.std.specs.Prelude.{ℕ, List}
use Rattle.nsc_outside.specs.CallPlan.{CallPlan}

-- the bytes that it took, how many more it can take, and which of its calls fail
pub record MemSink : Type 0 where
  pub taken : List ℕ
  pub room : ℕ
  pub plan : CallPlan
