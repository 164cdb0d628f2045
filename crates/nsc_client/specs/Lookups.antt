-- What a lookup in a store gives whoever called it through a link.
use Rattle.std.specs.Prelude.{◌≡◌, ◌≢◌, ℕ, ◌≤◌, List, Result, Ok, Err}
use Rattle.nsc_model.specs.declared.answer.Request.{Request}
use Rattle.nsc_model.specs.declared.store.Given.{Given}
use Rattle.nsc_model.specs.declared.store.LookupFault.{LookupFault}
use Rattle.nsc_model.specs.declared.store.LookupFault.TheVariants as fault
use Rattle.nsc_model.specs.declared.store.Store as store
use Rattle.nsc_model.specs.Stores.{Continues, GivesAnswerAt, GivesUpAt, IsOfFilesAt, reply_of, StaysCalm}
use Rattle.nsc_client.specs.declared.link.LinkFault.{LinkFault}
use Rattle.nsc_client.specs.declared.link.LinkFault.TheVariants.{NoMemory, Failed, Refused, BadReply}
use Rattle.nsc_client.specs.Sent.{SpellsReply}

-- what each lookup leaves of its caller's pass: it is one of the store, has seen what it had seen, and searched as often or more often
pub record LeavesPass {S P : Type 0} (g : store.Ghosts S P) (base : S) (before after : P) : Type 0 where
  pub is_pass : g.is_pass base after
  pub seen : Continues (g.at before).seen (g.at after).seen
  pub searches : (g.at before).searches ≤ (g.at after).searches

-- a lookup gave these bytes, which spell a reply of the kind that was asked for
pub record GivesBytes {S P : Type 0} (g : store.Ghosts S P) (base : S) (before after : P) (request : Request) (now : ℕ) (bytes : List ℕ) : Type 0 where
  pub left : LeavesPass g base before after
  pub gave : Given
  pub said : reply_of gave ≡ bytes
  pub spelled : SpellsReply request.kind bytes
  pub answer : GivesAnswerAt (g.settings base) now (g.at before) (g.at after) request gave
  pub files : IsOfFilesAt (g.db base) (g.held base) (g.at before) (g.at after) request gave
  pub no_fault : StaysCalm (g.at before) (g.at after)

-- a lookup gave up for this cause
pub record GivesFault {S P : Type 0} (g : store.Ghosts S P) (base : S) (before after : P) (request : Request) (cause : LookupFault) : Type 0 where
  pub left : LeavesPass g base before after
  pub fault : GivesUpAt (g.settings base) (g.at before) (g.at after) request cause

-- what a link to a store answers: what its lookup gave, or why that gave up. It never fails by itself, and its replies are replies
abbrev pub IsOfLookup : {S P : Type 0} → store.Ghosts S P → S → P → P → Request → ℕ → Result (List ℕ) LinkFault → Type 0
IsOfLookup g base before after request now (Ok bytes) = GivesBytes g base before after request now bytes
IsOfLookup g base before after request now (Err NoMemory) = GivesFault g base before after request fault.NoMemory
IsOfLookup g base before after request now (Err (Refused cause)) = GivesFault g base before after request cause × (cause ≢ fault.NoMemory)
IsOfLookup g base before after request now (Err Failed) = ⊥
IsOfLookup g base before after request now (Err (BadReply at)) = ⊥
