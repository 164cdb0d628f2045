-- Outcomes whose reply is of a kind, and no longer than some limit.
use Rattle.std.proofs.Common.{ℕ, ◌≤◌, length, arith, rules}
use Rattle.nsc_model.specs.declared.kind.Kind.{Kind}
use Rattle.nsc_model.specs.declared.row.Looked.{Looked}
use Rattle.nsc_model.specs.declared.row.Looked.TheVariants.{Unavail}
use Rattle.nsc_model.specs.Answer.{reply_limit}
use Rattle.nsc_model.specs.Outcomes.{reply_to}
use Rattle.nsc_model.specs.declared.kind.Shape.{Shape}
use Rattle.nsc_model.specs.declared.kind.Shape.TheVariants as shape
use Rattle.nsc_model.specs.Wire.{IsReplyOf, lacking, shape_of, spelled}

abbrev pub IsSent : ℕ → Kind → Looked → Type 0
IsSent limit kind looked = IsReplyOf kind (reply_to looked) × (length (spelled kind (reply_to looked)) ≤ limit)

-- what a file answers takes half of what a reply may have at most, so that the fields of a compat line have room beside it
abbrev pub entry_limit : ℕ
entry_limit = 536870912

pub any_sent : (kind : Kind) (looked : Looked) → IsSent entry_limit kind looked → IsSent reply_limit kind looked
any_sent kind looked sent = (sent.0, omega (arith, sent.1))

-- so is the reply that there is none
none_short : (shape : Shape) → length (lacking shape 0 1) ≤ entry_limit
none_short shape.User = search rules
none_short _ = search rules

pub none_sent : (kind : Kind) → IsSent entry_limit kind Unavail
none_sent kind = (tt, none_short (shape_of kind))
