-- What comes of a request for which a search in place found nothing, and a lookup was made.
use Rattle.std.proofs.Common.{◌≡◌, ◌≢◌, ◌∙◌, ℕ, List, Result, Ok, Err, IfOk, refl, subst, arith, inl, inr}
use Rattle.nsc_model.specs.declared.answer.Request.{Request}
use Rattle.nsc_model.specs.declared.conf.DbConf.{DbConf}
use Rattle.nsc_model.specs.declared.in_place.InPlace.{InPlace}
use Rattle.nsc_model.specs.declared.kind.FileId.{FileId}
use Rattle.nsc_model.specs.declared.record.Record.{Record}
use Rattle.nsc_model.specs.declared.row.Reply.{Reply}
use Rattle.nsc_model.specs.declared.store.LookupFault.{LookupFault}
use Rattle.nsc_model.specs.declared.store.LookupFault.TheVariants as fault
use Rattle.nsc_model.specs.declared.store.Store as store
use Rattle.nsc_model.specs.History.{Answered, IsPrefix}
use Rattle.nsc_model.specs.Reads.{FaultsStay}
use Rattle.nsc_model.specs.Stores.{Continues, GivesUp, GivesUpAt, IsMissed, IsMissedAt}
use Rattle.nsc_model.specs.Wire.{Spells}
use Rattle.nsc_client.specs.declared.link.LinkFault.{LinkFault}
use Rattle.nsc_client.specs.declared.link.LinkFault.TheVariants.{NoMemory, Failed, Refused, BadReply}
use Rattle.nsc_client.specs.Asks.{SearchesInPlace}
use Rattle.nsc_client.specs.Lookups.{GivesBytes, GivesFault, IsOfLookup}
use Rattle.nsc_client.specs.Replying.{IsRefusedAt, IsReplied}
use Rattle.nsc_client.proofs.Later.{answered_before, ended_before, prefix_through}

pub seen_on : (a b c : List Record) → Continues a b → Continues b c → Continues a c
seen_on a b c p q = record { before = prefix_through a b c p.before q.before; legal = q.legal; fit = q.fit }

-- no count changed in a first part of a call, and none in the rest
pub stay_on : (a b c : ℕ) (each each' each'' : FileId → ℕ) → FaultsStay a b each each' → FaultsStay b c each' each'' → FaultsStay a c each each''
stay_on a b c each each' each'' p q = (q.0 ∙ p.0, q.1 ∙ p.1)

-- ---- a reply

pub fallen_reply : {S P : Type 0} (g : store.Ghosts S P) (base : S) (before between after : P) (request : Request) (now : ℕ) (held bytes : List ℕ) (found : InPlace) (reply : Reply)
    → SearchesInPlace g base before between request held found → GivesBytes g base between after request now bytes → Spells request.kind reply bytes
    → IsReplied g before after request reply
fallen_reply g base before between after request now held bytes found reply s gives spelled = record {
  bytes = bytes;
  answered = answered_before (g.at before).seen (g.at between).seen (g.at after).seen request bytes s.seen.before
      (subst (λ (said : List ℕ). Answered (g.at between).seen (g.at after).seen request said) gives.said gives.answer.answered);
  spelled = spelled;
  legal = gives.left.seen.legal;
  searched = (let once = s.searches in let more = gives.left.searches in omega arith);
  calm = stay_on (g.at before).faults (g.at between).faults (g.at after).faults (g.at before).file_faults (g.at between).file_faults (g.at after).file_faults s.no_fault gives.no_fault;
}

-- the same of what a reader of the bytes returned
pub fallen_replies : {S P : Type 0} (g : store.Ghosts S P) (base : S) (before between after : P) (request : Request) (now : ℕ) (held bytes told : List ℕ) (found : InPlace) (read : Result Reply LinkFault)
    → SearchesInPlace g base before between request held found → GivesBytes g base between after request now bytes → told ≡ bytes
    → IfOk read (λ reply. Spells request.kind reply told) → IfOk read (IsReplied g before after request)
fallen_replies g base before between after request now held bytes told found (Ok reply) s gives same spelled =
    fallen_reply g base before between after request now held bytes found reply s gives (subst (λ (b : List ℕ). Spells request.kind reply b) same spelled)
fallen_replies g base before between after request now held bytes told found (Err fault) s gives same spelled = tt

-- ---- none

missed_more : (settings : DbConf) (less seen after : List Record) (request : Request) → IsPrefix less seen → IsMissed settings seen after request → IsMissed settings less after request
missed_more settings less seen after request p (inl off) = inl off
missed_more settings less seen after request p (inr ended) = inr (ended_before less seen after request p ended)

missed_before : (cause : LookupFault) (settings : DbConf) (less seen after : List Record) (request : Request) → IsPrefix less seen → IsMissedAt cause settings seen after request → IsMissedAt cause settings less after request
missed_before fault.NoMemory settings less seen after request p missed = missed
missed_before (fault.Spent count) settings less seen after request p missed = missed_more settings less seen after request p missed
missed_before (fault.SourceFault file) settings less seen after request p missed = missed_more settings less seen after request p missed
missed_before (fault.TooLong file size) settings less seen after request p missed = missed_more settings less seen after request p missed

-- a caller who had seen less, when the counts of faults were the same, and was refused for the same cause
pub gives_up_before : (settings : DbConf) (less seen after : List Record) (request : Request) (a b c : ℕ) (each each' each'' : FileId → ℕ) (cause : LookupFault)
    → IsPrefix less seen → FaultsStay a b each each' → GivesUp settings seen after request b c each' each'' cause → GivesUp settings less after request a c each each'' cause
gives_up_before settings less seen after request a b c each each' each'' cause p stay up =
    let same : GivesUp settings seen after request a c each each'' cause =
    subst (λ (n : ℕ). GivesUp settings seen after request n c each each'' cause) stay.0 (subst (λ (f : FileId → ℕ). GivesUp settings seen after request b c f each'' cause) stay.1 up) in
    record { missed = missed_before cause settings less seen after request p same.missed; fault = same.fault }

refused_by : {S P : Type 0} (g : store.Ghosts S P) (base : S) (before after : P) (request : Request) (cause : LookupFault) → cause ≢ fault.NoMemory
    → GivesUpAt (g.settings base) (g.at before) (g.at after) request cause
    → IsRefusedAt g base before after request (Refused cause)
refused_by g base before after request fault.NoMemory other up = absurd (other refl)
refused_by g base before after request (fault.Spent count) other up = (fault.Spent count, refl, up)
refused_by g base before after request (fault.SourceFault file) other up = (fault.SourceFault file, refl, up)
refused_by g base before after request (fault.TooLong file size) other up = (fault.TooLong file size, refl, up)

up_before : {S P : Type 0} (g : store.Ghosts S P) (base : S) (before between after : P) (request : Request) (held : List ℕ) (found : InPlace) (cause : LookupFault)
    → SearchesInPlace g base before between request held found → GivesFault g base between after request cause
    → GivesUpAt (g.settings base) (g.at before) (g.at after) request cause
up_before g base before between after request held found cause s gives =
    gives_up_before (g.settings base) (g.at before).seen (g.at between).seen (g.at after).seen request (g.at before).faults (g.at between).faults (g.at after).faults
    (g.at before).file_faults (g.at between).file_faults (g.at after).file_faults cause s.seen.before s.no_fault gives.fault

pub fallen_fault : {S P : Type 0} (g : store.Ghosts S P) (base : S) (before between after : P) (request : Request) (now : ℕ) (held : List ℕ) (found : InPlace) (refused : LinkFault)
    → SearchesInPlace g base before between request held found → IsOfLookup g base between after request now (Err refused) → IsRefusedAt g base before after request refused
fallen_fault g base before between after request now held found NoMemory s gives =
    (fault.NoMemory, refl, (up_before g base before between after request held found fault.NoMemory s gives).fault)
fallen_fault g base before between after request now held found (Refused cause) s gives =
    refused_by g base before after request cause gives.1 (up_before g base before between after request held found cause s gives.0)
fallen_fault g base before between after request now held found Failed s gives = absurd gives
fallen_fault g base before between after request now held found (BadReply at) s gives = absurd gives

pub fault_seen : {S P : Type 0} (g : store.Ghosts S P) (base : S) (before between after : P) (request : Request) (now : ℕ) (held : List ℕ) (found : InPlace) (refused : LinkFault)
    → SearchesInPlace g base before between request held found → IsOfLookup g base between after request now (Err refused) → Continues (g.at before).seen (g.at after).seen
fault_seen g base before between after request now held found NoMemory s gives = seen_on (g.at before).seen (g.at between).seen (g.at after).seen s.seen gives.left.seen
fault_seen g base before between after request now held found (Refused cause) s gives = seen_on (g.at before).seen (g.at between).seen (g.at after).seen s.seen gives.0.left.seen
fault_seen g base before between after request now held found Failed s gives = absurd gives
fault_seen g base before between after request now held found (BadReply at) s gives = absurd gives
