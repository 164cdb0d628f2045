-- What the lines of a file come to.
use Rattle.std.specs.Prelude.{ℕ, List, Option, Some, None}
use Rattle.nsc_model.specs.declared.row.Looked.{Looked}
use Rattle.nsc_model.specs.declared.row.Looked.TheVariants.{Unavail}
use Rattle.nsc_model.specs.Answers.{found_ids}

-- an outcome that a line has, or else that of the lines after it
abbrev pub looked_or : Option Looked → Looked → Looked
looked_or None next = next
looked_or (Some looked) next = looked

-- the outcome of ids that were gathered; where a netgroup was reached, there are none
abbrev pub ids_or_unavail : Option (List ℕ) → Looked
ids_or_unavail None = Unavail
ids_or_unavail (Some ids) = found_ids ids
