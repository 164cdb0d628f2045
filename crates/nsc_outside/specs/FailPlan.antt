-- Which calls of one kind fail.
use Rattle.std.specs.Prelude.{ℕ, ◌==◌, Bool, List, []}
use Rattle.std.specs.List.{list_any}
use Rattle.nsc_outside.specs.CallPlan.{risen}

-- the numbers of those that fail, counted from 1, and how many were made so far
pub record FailPlan : Type 0 where
  pub failing : List ℕ
  pub calls : ℕ

-- none fails, and none was made
abbrev pub no_failing : FailPlan
no_failing = record { failing = []; calls = 0 }

-- whether the next call is one of those that fail
abbrev pub next_fails : FailPlan → Bool
next_fails plan = list_any (λ call. call == risen plan.calls) plan.failing

-- one more call was made
abbrev pub one_more : FailPlan → FailPlan
one_more plan = record plan { calls = risen plan.calls }
