-- What comes of one request, and of what a line asks.
use Rattle.std.specs.Prelude.{◌≡◌, ℕ, ◌+◌, ◌≤◌, List, All, IfSome, Option, Some, None, codes, length}
use Rattle.nsc_model.specs.declared.answer.Request.{Request}
use Rattle.nsc_model.specs.declared.databases.Databases.{Databases}
use Rattle.nsc_model.specs.declared.row.Reply.{Reply}
use Rattle.nsc_model.specs.declared.store.LookupFault.{LookupFault}
use Rattle.nsc_model.specs.declared.store.LookupFault.TheVariants as fault
use Rattle.nsc_model.specs.declared.store.Store as store
use Rattle.nsc_model.specs.Entry.{key_limit}
use Rattle.nsc_model.specs.History.{Answered, Legal}
use Rattle.nsc_model.specs.Stores.{GivesUpAt, StaysCalm}
use Rattle.nsc_model.specs.Wire.{Spells}
use Rattle.nsc_client.specs.declared.line.LineAsks.{LineAsks}
use Rattle.nsc_client.specs.declared.line.LineAsks.TheVariants.{Bad, One, HostNamed}
use Rattle.nsc_client.specs.declared.link.LinkFault.{LinkFault}
use Rattle.nsc_client.specs.Gate.{AreCalm, IsTold, searches_of}
use Rattle.nsc_client.specs.GateText.{AreAsked, Told, answer_text, reply_text}
use Rattle.nsc_client.specs.Links.{fault_of}
use Rattle.nsc_client.specs.Sent.{CanBeSent}

-- ---- one request of one store

-- a reply answers the request, after at least one search in place
pub record IsReplied {S P : Type 0} (g : store.Ghosts S P) (before after : P) (request : Request) (reply : Reply) : Type 0 where
  pub bytes : List ℕ
  pub answered : Answered (g.at before).seen (g.at after).seen request bytes
  pub spelled : Spells request.kind reply bytes
  pub legal : Legal (g.at after).seen
  pub searched : (g.at before).searches + 1 ≤ (g.at after).searches
  pub calm : StaysCalm (g.at before) (g.at after)

-- memory was short; or the lookup gave up
abbrev pub IsCauseAt : {S P : Type 0} → store.Ghosts S P → S → P → P → Request → LookupFault → Type 0
IsCauseAt g base before after request fault.NoMemory = StaysCalm (g.at before) (g.at after)
IsCauseAt g base before after request cause = GivesUpAt (g.settings base) (g.at before) (g.at after) request cause

-- why there is no reply
abbrev pub IsRefusedAt : {S P : Type 0} → store.Ghosts S P → S → P → P → Request → LinkFault → Type 0
IsRefusedAt g base before after request refused = (cause : LookupFault) × (refused ≡ fault_of cause) × IsCauseAt g base before after request cause

-- ---- the four stores

-- a reply answers the request, after at least one search in place
pub record IsGiven {S P : Type 0} (g : store.Ghosts S P) (before after : Databases P) (request : Request) (reply : Reply) : Type 0 where
  pub told : IsTold g before after (record { request = request; reply = reply })
  pub searched : searches_of g before + 1 ≤ searches_of g after
  pub calm : AreCalm g before after

-- what the last reply says; where nothing was asked, the line is bad
abbrev pub said : Option Reply → List ℕ
said None = codes "bad line"
said (Some reply) = reply_text reply

-- what was asked for a line, after at least as many searches in place, and the last reply, where there is one
pub record IsAnswered {S P : Type 0} (g : store.Ghosts S P) (before after : Databases P) (asking : LineAsks) (last : Option Reply) : Type 0 where
  pub asked : List Told
  pub are_asked : AreAsked asking asked
  pub told : All (IsTold g before after) asked
  pub says : answer_text asked ≡ said last
  pub searched : searches_of g before + length asked ≤ searches_of g after
  pub calm : AreCalm g before after
  pub sent : IfSome last CanBeSent

-- no key is too long
abbrev pub KeysFit : LineAsks → Type 0
KeysFit Bad = Unit {0}
KeysFit (One request) = length request.key ≤ key_limit
KeysFit (HostNamed name) = length name ≤ key_limit
