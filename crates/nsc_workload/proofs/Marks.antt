-- The second field of a reply tells whether its answer is a not-found one.
use Rattle.std.proofs.Common.{◌≡◌, ℕ, false, not, refl}
use Rattle.nsc_model.specs.declared.kind.Kind.{Kind}
use Rattle.nsc_model.specs.declared.row.Looked.{Looked}
use Rattle.nsc_model.specs.declared.row.Looked.TheVariants.{Found, NotFound, Unavail}
use Rattle.nsc_model.specs.declared.row.Row.TheVariants as row
use Rattle.nsc_model.specs.Answers.{answer_of, looked_up, marked}
use Rattle.nsc_model.specs.declared.kind.Shape.{Shape}
use Rattle.nsc_model.specs.declared.kind.Shape.TheVariants as shape
use Rattle.nsc_model.specs.Wire.{lacking, shape_of}
use Rattle.nsc_workload.specs.Runs.{has_row}
use Rattle.nsc_workload.specs.Workload.{answer_at, files_of, request_at}

lacks : (shape : Shape) → has_row (lacking shape 0 1) ≡ false
lacks shape.User = refl
lacks shape.Group = refl
lacks shape.Ids = refl
lacks shape.Host = refl
lacks shape.Addresses = refl
lacks shape.Service = refl
lacks shape.Netgroup = refl
lacks shape.Member = refl

tells : (kind : Kind) (looked : Looked) → has_row (marked kind looked).bytes ≡ not (marked kind looked).not_found
tells kind (Found (row.Passwd p)) = refl
tells kind (Found (row.Group g)) = refl
tells kind (Found (row.Host h)) = refl
tells kind (Found (row.Service s)) = refl
tells kind (Found (row.Ai a)) = refl
tells kind (Found (row.Groups ids)) = refl
tells kind (Found (row.Netgroup texts)) = refl
tells kind (Found (row.Member has)) = refl
tells kind NotFound = lacks (shape_of kind)
tells kind Unavail = lacks (shape_of kind)

pub answer_tells : (n i : ℕ) → has_row (answer_at n i).bytes ≡ not (answer_at n i).not_found
unfolding answer_of
answer_tells n i = tells (request_at n i).kind (looked_up (files_of n) (request_at n i))
