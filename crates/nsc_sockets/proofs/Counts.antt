-- Counts of faults.
use Rattle.std.proofs.Common.{ℕ, ◌≤◌, arith}
use Rattle.nsc_model.specs.Reads.{greatest, Rose}
use Rattle.nsc_outside.specs.CallPlan.{risen}

-- a count that is counted up rose
pub rose_risen : (count : ℕ) → count ≤ greatest → Rose count (risen count)
rose_risen count within = grind arith
