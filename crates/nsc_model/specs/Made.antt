-- The records that the calls through one pass added to the history of a database.
use Rattle.std.specs.Prelude.{◌≡◌, ◌⊎◌, ℕ, All, List, [], ◌∷◌, ◌++◌, Some, true}
use Rattle.nsc_model.specs.declared.answer.Request.{Request}
use Rattle.nsc_model.specs.declared.conf.DbConf.{DbConf}
use Rattle.nsc_model.specs.declared.fault.CacheFault.{CacheFault}
use Rattle.nsc_model.specs.declared.fault.CacheFault.TheVariants as cache_fault
use Rattle.nsc_model.specs.declared.record.Record.{Record}
use Rattle.nsc_model.specs.declared.record.Record.TheVariants.{Change, End, Invalid, Load, Poll}
use Rattle.nsc_model.specs.declared.store.Given.{Given}
use Rattle.nsc_model.specs.declared.store.Given.TheVariants as given
use Rattle.nsc_model.specs.declared.store.LookupFault.{LookupFault}
use Rattle.nsc_model.specs.declared.store.LookupFault.TheVariants as fault
use Rattle.nsc_model.specs.Answers.{request_beside}
use Rattle.nsc_model.specs.Content.{Content}
use Rattle.nsc_model.specs.Entry.{Entry}
use Rattle.nsc_model.specs.History.{invalidations, loads, version_in}
use Rattle.nsc_model.specs.Stores.{IsSpent, LoadedLastCycle, PassAt}

-- the record says that the files were looked at
abbrev pub IsLook : Record → Type 0
IsLook (Change version content) = Unit {0}
IsLook (Poll version) = Unit {0}
IsLook (Load entry) = ⊥
IsLook (End number cause) = ⊥
IsLook (Invalid epoch) = ⊥

-- the record says that an entry ended
abbrev pub IsEnd : Record → Type 0
IsEnd (Change version content) = ⊥
IsEnd (Poll version) = ⊥
IsEnd (Load entry) = ⊥
IsEnd (End number cause) = Unit {0}
IsEnd (Invalid epoch) = ⊥

-- one look at the files
abbrev pub IsOneLook : List Record → Type 0
IsOneLook added = (look : Record) × IsLook look × (added ≡ look ∷ [])

-- one look at the files, or none
abbrev pub IsLookAtMost : List Record → Type 0
IsLookAtMost added = (added ≡ []) ⊎ IsOneLook added

-- an invalidation behind the ends of entries
abbrev pub IsInvalidation : ℕ → List Record → Type 0
IsInvalidation epoch added = (ends : List Record) × All IsEnd ends × (added ≡ Invalid epoch ∷ ends)

-- an entry is of the request by id for the row that another entry found, over the version of that entry
pub record IsBeside (history : List Record) (request : Request) (entry id : Entry) : Type 0 where
  pub files : Content
  pub version : version_in history entry.version ≡ Some files
  pub asked : request_beside files request ≡ Some id.request

-- An entry of the request was inserted behind a look at the files. With `auto-propagate` (nscd.conf(5)) an entry of the request by id
-- may have been inserted behind that.
pub record IsInsertion (settings : DbConf) (history : List Record) (request : Request) (number : ℕ) (added : List Record) : Type 0 where
  pub look : Record
  pub looks : IsLook look
  pub entry : Entry
  pub numbered : entry.number ≡ number
  pub asked : entry.request ≡ request
  pub are : (added ≡ Load entry ∷ look ∷ []) ⊎ ((settings.propagate ≡ true) × (id : Entry) × IsBeside history request entry id × (added ≡ Load id ∷ Load entry ∷ look ∷ []))

-- between two moments the calls through a pass added these records, newest first
pub record Adds (are : List Record → Type 0) (before after : PassAt) : Type 0 where
  pub added : List Record
  pub made : after.made ≡ added ++ before.made
  pub holds : are added

-- and no record
abbrev pub AddsNothing : PassAt → PassAt → Type 0
AddsNothing before after = after.made ≡ before.made

-- what a lookup adds that gave this: nothing, if an entry was live; else a look at the files, and what it inserted
abbrev pub AddsByLookup : DbConf → Request → PassAt → PassAt → Given → Type 0
AddsByLookup settings request before after (given.Hit bytes number) = AddsNothing before after
AddsByLookup settings request before after (given.Loaded bytes number) = Adds (IsInsertion settings after.seen request number) before after
AddsByLookup settings request before after (given.Fresh bytes why) = Adds IsOneLook before after

-- what a lookup adds that gave up: one look at the files at most, and none unless memory is short
abbrev pub AddsByRefusedLookup : PassAt → PassAt → LookupFault → Type 0
AddsByRefusedLookup before after fault.NoMemory = Adds IsLookAtMost before after
AddsByRefusedLookup before after (fault.Spent count) = AddsNothing before after
AddsByRefusedLookup before after (fault.SourceFault file) = AddsNothing before after
AddsByRefusedLookup before after (fault.TooLong file length) = AddsNothing before after

-- what a tick adds that stopped at a count: nothing, if that is the count of versions; a look, if it is that of invalidations; or a look
-- and ends, if it is that of compactions
abbrev pub AddsBySpentTick : ℕ → PassAt → PassAt → Type 0
AddsBySpentTick count before after =
    (IsSpent after.seen count × AddsNothing before after) ⊎
    (((invalidations after.seen ≡ count) × Adds IsOneLook before after) ⊎ (LoadedLastCycle before after × Adds (λ added. loads added ≡ 0) before after))

-- what a tick adds that gave up: one look at most, unless it stopped at a count
abbrev pub AddsByRefusedTick : PassAt → PassAt → LookupFault → Type 0
AddsByRefusedTick before after fault.NoMemory = Adds IsLookAtMost before after
AddsByRefusedTick before after (fault.Spent count) = AddsBySpentTick count before after
AddsByRefusedTick before after (fault.SourceFault file) = AddsNothing before after
AddsByRefusedTick before after (fault.TooLong file length) = AddsNothing before after

-- what an invalidation adds that gave up: nothing, unless it stopped at the count of compactions, with all its records
abbrev pub AddsByRefusedInvalidation : PassAt → PassAt → CacheFault → Type 0
AddsByRefusedInvalidation before after cache_fault.NoMemory = AddsNothing before after
AddsByRefusedInvalidation before after (cache_fault.Spent count) =
    ((invalidations after.seen ≡ count) × AddsNothing before after) ⊎
    (LoadedLastCycle before after × Adds (IsInvalidation (invalidations after.seen)) before after)
