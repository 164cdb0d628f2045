-- What is held of the lines of a connection: the bytes that came and were not answered.
use Rattle.std.specs.Prelude.{◌≡◌, ℕ, ◌+◌, ◌<◌, ◌≤◌, Bool, true, false, List, ◌++◌, length}
use Rattle.nsc_outside.specs.Stream.{IsDrained, Moves}
use Rattle.nsc_outside.specs.StreamAt.{StreamAt}
use Rattle.nsc_model.specs.Reads.{Rose}
use Rattle.nsc_model.specs.Entry.{line_limit}
use Rattle.nsc_client.specs.declared.gate.Gated.{Gated}
use Rattle.nsc_client.specs.declared.gate.Gated.TheVariants as gated
use Rattle.nsc_client.specs.declared.link.LinkFault.{LinkFault}
use Rattle.nsc_client.specs.declared.link.LinkFault.TheVariants as link

-- bytes came after those that were held
pub record ComesIn (before after : StreamAt) (held new : List ℕ) : Type 0 where
  pub more : List ℕ
  pub moved : Moves before.bytes after.bytes more
  pub joined : new ≡ held ++ more
  pub calm : after.faults ≡ before.faults

-- some came; or none, since the input has ended
abbrev pub ComesOrEnds : StreamAt → StreamAt → List ℕ → List ℕ → Bool → Type 0
ComesOrEnds before after held new true = ComesIn before after held new
ComesOrEnds before after held new false = ComesIn before after held new × (new ≡ held) × IsDrained after.bytes

-- nothing was read: memory was short, or the input failed
abbrev pub ReadsNone : StreamAt → StreamAt → LinkFault → Type 0
ReadsNone before after link.NoMemory = after ≡ before
ReadsNone before after link.Failed = (after.bytes ≡ before.bytes) × Rose before.faults after.faults
ReadsNone before after (link.Refused cause) = ⊥
ReadsNone before after (link.BadReply at) = ⊥

-- the bytes that are held are no line; or the input failed; or memory was short
abbrev pub GivesNone : StreamAt → StreamAt → List ℕ → Gated → Type 0
GivesNone before after held (gated.TooLongLine size) = (after ≡ before) × (size ≡ line_limit + 1) × (line_limit < length held)
GivesNone before after held gated.ReadFault = (after.bytes ≡ before.bytes) × Rose before.faults after.faults × (length held ≤ line_limit)
GivesNone before after held (gated.Refused link.NoMemory) = (after ≡ before) × (length held ≤ line_limit)
GivesNone before after held _ = ⊥
