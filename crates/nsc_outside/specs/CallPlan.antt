-- Which calls of a stream in memory fail, and how many bytes a call moves.
use Rattle.std.specs.Prelude.{ℕ, ◌+◌, min, Bool, ◌==◌, List}
use Rattle.std.specs.List.{list_any}
use Rattle.nsc_model.specs.Reads.{greatest}

-- a count one higher, up to the greatest
abbrev pub risen : ℕ → ℕ
risen count = min (count + 1) greatest

-- how many bytes a call moves at most, the numbers of the calls that fail, counted from 1, and the calls and faults so far
pub record CallPlan : Type 0 where
  pub step : ℕ
  pub failing : List ℕ
  pub calls : ℕ
  pub faults : ℕ

-- whether the next call is one of those that fail
abbrev pub is_next_failing : CallPlan → Bool
is_next_failing plan = list_any (λ call. call == risen plan.calls) plan.failing

-- a call was made
abbrev pub after_call : CallPlan → CallPlan
after_call plan = record plan { calls = risen plan.calls }

-- a call failed
abbrev pub after_fault : CallPlan → CallPlan
after_fault plan = record plan { faults = risen plan.faults }
