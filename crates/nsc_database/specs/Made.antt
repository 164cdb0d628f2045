-- The records that a call of the writer adds to the history, and to the list of the pass that calls.
use Rattle.std.specs.Prelude.{◌≡◌, ◌≤◌, ◌⊎◌, ℕ, List, [], ◌∷◌, ◌++◌, ◌-◌, length, take, Option, Some}
use Rattle.nsc_model.specs.declared.fault.CacheFault.{CacheFault}
use Rattle.nsc_model.specs.declared.record.Record.{Record}
use Rattle.nsc_model.specs.declared.record.Record.TheVariants.{Load}
use Rattle.nsc_model.specs.declared.store.Given.{Given}
use Rattle.nsc_model.specs.declared.store.Given.TheVariants as given
use Rattle.nsc_model.specs.declared.store.LookupFault.{LookupFault}
use Rattle.nsc_model.specs.declared.store.LookupFault.TheVariants as fault
use Rattle.nsc_model.specs.History.{invalidations, loads}
use Rattle.nsc_model.specs.Machine.{last_count}
use Rattle.nsc_model.specs.Made.{Adds, AddsNothing, IsInvalidation}
use Rattle.nsc_model.specs.Stores.{LoadedLastCycle, PassAt}
use Rattle.nsc_writer.specs.declared.loaded.Inserted.{Inserted}
use Rattle.nsc_writer.specs.declared.loaded.Inserted.TheVariants as inserted
use Rattle.nsc_writer.specs.Loaded.{Loaded, kept_of}
use Rattle.nsc_writer.specs.Writer.{Writer}
use Rattle.nsc_turns.specs.declared.ticks.Checked.{Checked}
use Rattle.nsc_turns.specs.declared.ticks.Checked.TheVariants as checked
use Rattle.nsc_database.specs.declared.base.Insertions.{Insertions}

-- The records in front of `seen`, if `history` began with `seen`.
abbrev pub gained : List Record → List Record → List Record
gained seen history = take (length history - length seen) history

-- A call added `added` to the writer's history and to a list of records made, and these are what `are` says.
pub record Enters (are : List Record → Type 0) (seen history before after : List Record) : Type 0 where
  pub added : List Record
  pub gains : history ≡ added ++ seen
  pub made : after ≡ added ++ before
  pub holds : are added

abbrev pub IsNone : List Record → Type 0
IsNone added = added ≡ []

abbrev pub IsAny : List Record → Type 0
IsAny added = Unit {0}

-- An insertion, whose outcome is given, added its entry, or nothing if it was refused.
abbrev pub InsertsOne : Inserted → Loaded → List Record → Type 0
InsertsOne (inserted.Done number) loaded added = added ≡ Load (kept_of loaded number).entry ∷ []
InsertsOne (inserted.TooLarge size) loaded added = added ≡ []
InsertsOne (inserted.Discarded noted epoch) loaded added = added ≡ []
InsertsOne (inserted.Present number) loaded added = added ≡ []
InsertsOne (inserted.Spent count) loaded added = added ≡ []
InsertsOne (inserted.Full need free) loaded added = added ≡ []

-- An insertion was tried behind another one, whose outcome is given. It added its entry or nothing, and nothing if the other one was refused.
abbrev pub InsertsBehind : Inserted → Option Loaded → List Record → Type 0
InsertsBehind (inserted.Done number) behind added = (added ≡ []) ⊎ ((l : Loaded) × (behind ≡ Some l) × (n : ℕ) × (added ≡ Load (kept_of l n).entry ∷ []))
InsertsBehind (inserted.TooLarge size) behind added = added ≡ []
InsertsBehind (inserted.Discarded noted epoch) behind added = added ≡ []
InsertsBehind (inserted.Present number) behind added = added ≡ []
InsertsBehind (inserted.Spent count) behind added = added ≡ []
InsertsBehind (inserted.Full need free) behind added = added ≡ []

-- A lookup gave this, and its insertions added these records.
abbrev pub InsertsFor : Insertions → Given → List Record → Type 0
InsertsFor i (given.Hit bytes number) added = ⊥
InsertsFor i (given.Loaded bytes number) added =
    (added ≡ Load (kept_of i.loaded number).entry ∷ []) ⊎
    ((l : Loaded) × (i.beside ≡ Some l) × (n : ℕ) × (added ≡ Load (kept_of l n).entry ∷ Load (kept_of i.loaded number).entry ∷ []))
InsertsFor i (given.Fresh bytes why) added = added ≡ []

-- An invalidation stopped at a count. It added nothing if that is the count of invalidations, and all its records if it is that of compactions.
abbrev pub EmptiesOrStays : ℕ → Writer → List Record → Type 0
EmptiesOrStays count after added =
    ((invalidations after.seen ≡ count) × (added ≡ [])) ⊎ ((last_count ≤ after.cache.cycle) × IsInvalidation (invalidations after.seen) added)

-- `Desk::check` added nothing if it listed what is due.
abbrev pub ChecksBy : Checked → List Record → Type 0
ChecksBy checked.Emptied added = Unit {0}
ChecksBy (checked.Listed due) added = added ≡ []

-- `Desk::check` gave up. It added nothing if memory was short, and what `EmptiesOrStays` says if it stopped at a count.
abbrev pub StopsBy : LookupFault → Writer → List Record → Type 0
StopsBy fault.NoMemory after added = added ≡ []
StopsBy (fault.Spent count) after added = EmptiesOrStays count after added
StopsBy (fault.SourceFault file) after added = ⊥
StopsBy (fault.TooLong file size) after added = ⊥

-- `Desk::renew` stopped: CYCLE is at 2^62, and the call inserted no entry.
abbrev pub EndsAlone : Writer → List Record → Type 0
EndsAlone after added = (last_count ≤ after.cache.cycle) × (loads added ≡ 0)

-- A tick gave up in a critical section behind its poll. That section added nothing; or the pass loaded CYCLE as 2^62, and it inserted no entry.
abbrev pub AddsByRefusedHold : PassAt → PassAt → LookupFault → Type 0
AddsByRefusedHold before after fault.NoMemory = AddsNothing before after
AddsByRefusedHold before after (fault.Spent count) =
    ((invalidations after.seen ≡ count) × AddsNothing before after) ⊎ (LoadedLastCycle before after × Adds (λ added. loads added ≡ 0) before after)
AddsByRefusedHold before after (fault.SourceFault file) = ⊥
AddsByRefusedHold before after (fault.TooLong file size) = ⊥
