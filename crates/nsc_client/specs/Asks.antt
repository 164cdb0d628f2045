-- What comes of a request that is asked in place first, and then over a link.
use Rattle.std.specs.Prelude.{◌≡◌, ℕ, ◌+◌, Bool, List, Result, Ok, Err}
use Rattle.nsc_model.specs.declared.answer.Request.{Request}
use Rattle.nsc_model.specs.declared.kind.Kind.{Kind}
use Rattle.nsc_model.specs.declared.in_place.InPlace.{InPlace}
use Rattle.nsc_model.specs.declared.in_place.InPlace.TheVariants.{Hit, Odd, Moved, NoEntry}
use Rattle.nsc_model.specs.declared.store.Store as store
use Rattle.nsc_model.specs.InPlace.{InPlaceClause}
use Rattle.nsc_model.specs.Stores.{Continues, StaysCalm}
use Rattle.nsc_client.specs.declared.asking.Asked.{Asked}
use Rattle.nsc_client.specs.declared.asking.Asked.TheVariants as asked
use Rattle.nsc_client.specs.declared.link.Link as link
use Rattle.nsc_client.specs.declared.link.LinkFault.{LinkFault}
use Rattle.nsc_client.specs.Links.{FailsBy}
use Rattle.nsc_client.specs.Sent.{SpellsReply}

-- a link takes every pass of a store, for requests of its database
abbrev pub TakesPassesOf : {S P L : Type 0} → store.Ghosts S P → link.Ghosts L P → S → L → Type 0
TakesPassesOf g h base way = (pass : _) → g.is_pass base pass → h.takes way pass (g.db base)

-- at one moment: a caller's pass and his link
pub record CallerAt (P L : Type 0) : Type 0 where
  pub pass : P
  pub way : L

abbrev pub caller_at : {P L : Type 0} → P → L → CallerAt P L
caller_at pass way = record { pass = pass; way = way }

-- a search in place gave this answer, with these bytes in the buffer
pub record SearchesInPlace {S P : Type 0} (g : store.Ghosts S P) (base : S) (before after : P) (request : Request) (bytes : List ℕ) (answer : InPlace) : Type 0 where
  pub is_pass : g.is_pass base after
  pub seen : Continues (g.at before).seen (g.at after).seen
  pub searches : (g.at after).searches ≡ (g.at before).searches + 1
  pub answered : InPlaceClause (g.at before).seen (g.at after).seen request (g.at after).first (g.at after).last bytes answer
  pub no_fault : StaysCalm (g.at before) (g.at after)

-- it found no reply
abbrev pub IsFallback : InPlace → Type 0
IsFallback (Hit number version not_found) = ⊥
IsFallback (Odd cycle) = Unit {0}
IsFallback (Moved from to) = Unit {0}
IsFallback NoEntry = Unit {0}

-- a search in place gave this answer, which is no hit; and a call of the link, by the pass as the search left it, gave that one
pub record FallsBack {S P L : Type 0} (g : store.Ghosts S P) (h : link.Ghosts L P) (base : S) (before after : CallerAt P L) (request : Request) (now : ℕ) (bytes : List ℕ) (found : InPlace) (answer : Result (List ℕ) LinkFault) : Type 0 where
  pub between : P
  pub searched : SearchesInPlace g base before.pass between request bytes found
  pub no_hit : IsFallback found
  pub called : h.keeps before.way between after.pass request now answer
  pub failed : FailsBy (h.faults before.way) (h.faults after.way) answer

-- how a request was answered: in place, with the link as it was; or over the link, or by its fault, once a search in place found no reply
abbrev pub IsAsked : {S P L : Type 0} → store.Ghosts S P → link.Ghosts L P → S → CallerAt P L → CallerAt P L → Request → ℕ → List ℕ → Result Asked LinkFault → Type 0
IsAsked g h base before after request now bytes (Ok (asked.InPlace number version)) =
    (not_found : Bool) × SearchesInPlace g base before.pass after.pass request bytes (Hit number version not_found) × (after.way ≡ before.way)
IsAsked g h base before after request now bytes (Ok (asked.Linked found reply)) = FallsBack g h base before after request now bytes found (Ok reply)
IsAsked g h base before after request now bytes (Err fault) = (found : InPlace) × FallsBack g h base before after request now bytes found (Err fault)

-- what an answer in place left in the buffer spells a reply of the kind
abbrev pub SpellsInPlace : Kind → List ℕ → Asked → Type 0
SpellsInPlace by bytes (asked.InPlace number version) = SpellsReply by bytes
SpellsInPlace by bytes (asked.Linked found reply) = Unit {0}
