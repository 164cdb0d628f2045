-- Replies that can be sent, and the bytes that spell them.
use Rattle.std.specs.Prelude.{ℕ, List}
use Rattle.nsc_model.specs.declared.kind.Kind.{Kind}
use Rattle.nsc_model.specs.declared.row.Reply.{Reply}
use Rattle.nsc_model.specs.declared.row.Reply.TheVariants.{Found, Absent, Disabled}
use Rattle.nsc_model.specs.Wire.{IsRow, Spells}

-- a reply has no row, or one that can be sent
abbrev pub CanBeSent : Reply → Type 0
CanBeSent (Found row) = IsRow row
CanBeSent Absent = Unit {0}
CanBeSent Disabled = Unit {0}

-- bytes spell some reply of a kind
pub record SpellsReply (by : Kind) (bytes : List ℕ) : Type 0 where
  pub reply : Reply
  pub spelled : Spells by reply bytes
