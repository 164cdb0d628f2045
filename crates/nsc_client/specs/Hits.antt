-- Lines that searches in place answer.
use Rattle.std.specs.Prelude.{◌≡◌, ℕ, ◌+◌, ◌≤◌, List, [], ◌∷◌, ◌++◌, Some, None, codes}
use Rattle.nsc_model.specs.declared.answer.Request.{Request}
use Rattle.nsc_model.specs.declared.databases.Databases.{Databases}
use Rattle.nsc_model.specs.declared.kind.Kind.{Kind}
use Rattle.nsc_model.specs.declared.record.Record.{Record}
use Rattle.nsc_model.specs.declared.row.Reply.{Reply}
use Rattle.nsc_model.specs.declared.store.Store as store
use Rattle.nsc_model.specs.History.{Answered}
use Rattle.nsc_model.specs.Wire.{Spells}
use Rattle.nsc_client.specs.declared.hits.Hit.{Hit}
use Rattle.nsc_client.specs.declared.hits.Hit.TheVariants as hit
use Rattle.nsc_client.specs.declared.line.LineAsks.{LineAsks}
use Rattle.nsc_client.specs.Gate.{AreCalm, searches_of}
use Rattle.nsc_client.specs.GateText.{reply_text}
use Rattle.nsc_client.specs.Replying.{IsAnswered, IsGiven}
use Rattle.nsc_client.specs.Sent.{SpellsReply}

-- the passes searched in place at least `count` times, and no count of their faults changed
pub record Searches {S P : Type 0} (g : store.Ghosts S P) (before after : Databases P) (count : ℕ) : Type 0 where
  pub searched : searches_of g before + count ≤ searches_of g after
  pub calm : AreCalm g before after

-- bytes answer a request of one store, and spell a reply of its kind
pub record IsFoundAt (seen after : List Record) (request : Request) (bytes : List ℕ) : Type 0 where
  pub spelled : SpellsReply request.kind bytes
  pub answered : Answered seen after request bytes

-- the reply that the bytes spell answers the request
pub record IsFound {S P : Type 0} (g : store.Ghosts S P) (before after : Databases P) (request : Request) (bytes : List ℕ) : Type 0 where
  pub spelled : SpellsReply request.kind bytes
  pub given : (reply : Reply) → Spells request.kind reply bytes → IsGiven g before after request reply

-- the line is bad; or the reply of this kind that the bytes spell is the last one to what it asks
abbrev pub IsHit : {S P : Type 0} → store.Ghosts S P → Databases P → Databases P → LineAsks → List ℕ → Hit → Type 0
IsHit g before after asking bytes hit.Bad = IsAnswered g before after asking None
IsHit g before after asking bytes (hit.Reply by) = SpellsReply by bytes × ((reply : Reply) → Spells by reply bytes → IsAnswered g before after asking (Some reply))

-- the bytes spell the reply of a hit that has one
abbrev pub SpellsHit : Hit → List ℕ → Type 0
SpellsHit hit.Bad bytes = Unit {0}
SpellsHit (hit.Reply by) bytes = SpellsReply by bytes

-- a text is the line of the reply of this kind that the bytes spell
abbrev pub SaysReply : Kind → List ℕ → List ℕ → Type 0
SaysReply by bytes text = (reply : Reply) → Spells by reply bytes → text ≡ reply_text reply ++ 10 ∷ []

-- a text is the line of a hit
abbrev pub SaysHit : Hit → List ℕ → List ℕ → Type 0
SaysHit hit.Bad bytes text = text ≡ codes "bad line" ++ 10 ∷ []
SaysHit (hit.Reply by) bytes text = SaysReply by bytes text
