-- What the holds of a tick come to.
use Rattle.std.specs.Prelude.{◌≡◌, ℕ, ◌+◌, ◌<◌, ◌≤◌, ◌⊎◌, ◌^◌, Bool, true, false, All, List, [], ◌∷◌, map, Option, Some}
use Rattle.std.specs.Bool.{OnTrue}
use Rattle.nsc_model.specs.declared.conf.DbConf.{DbConf}
use Rattle.nsc_model.specs.declared.fault.CacheFault.{CacheFault}
use Rattle.nsc_model.specs.declared.fault.CacheFault.TheVariants as cache_fault
use Rattle.nsc_model.specs.declared.answer.Request.{Request}
use Rattle.nsc_model.specs.declared.record.Ending.TheVariants.{Replaced}
use Rattle.nsc_model.specs.declared.record.Record.{Record}
use Rattle.nsc_model.specs.declared.record.Record.TheVariants.{End}
use Rattle.nsc_model.specs.declared.store.LookupFault.{LookupFault}
use Rattle.nsc_model.specs.declared.store.LookupFault.TheVariants as fault
use Rattle.nsc_model.specs.Entry.{Entry}
use Rattle.nsc_model.specs.Answer.{Answer}
use Rattle.nsc_model.specs.Content.{Content}
use Rattle.nsc_model.specs.History.{HasEnd, HasLoad, IsPrefix, NoneLive, PolledSince, invalidations, load_of, version_in}
use Rattle.nsc_model.specs.Machine.{all_words, last_count, life_of}
use Rattle.nsc_model.specs.Reloads.{replaced}
use Rattle.nsc_model.specs.Stores.{IsLoadedAgain, IsTickedAt, IsUnmoved, PassAt}
use Rattle.nsc_model.specs.declared.kind.Db.{Db}
use Rattle.nsc_pruner.specs.Due.{Due}
use Rattle.nsc_turns.specs.declared.answering.Answering.{Answering}
use Rattle.nsc_turns.specs.Loads.{anew_of}
use Rattle.nsc_writer.specs.Loaded.{Loaded}
use Rattle.nsc_writer.specs.Writer.{Writer}
use Rattle.nsc_turns.specs.declared.ticks.Checked.{Checked}
use Rattle.nsc_turns.specs.declared.ticks.Checked.TheVariants as checked
use Rattle.nsc_database.specs.Rests.{IsCurrent}

-- An entry of this number and request was inserted, and its time is over. The request has at least as many reloads: those that an image
-- brought back for it, and its entries that ended to be reloaded. It is dropped if its reply is a not-found one, or if the limit is reached.
pub record IsDue (brought : Request → ℕ) (limit : Option ℕ) (now : ℕ) (history : List Record) (d : Due) : Type 0 where
  pub entry : Entry
  pub inserted : HasLoad history entry
  pub numbered : entry.number ≡ d.number
  pub asked : entry.request ≡ d.request
  pub over : entry.timeout < now
  pub counted : d.reloads ≤ brought d.request + replaced history d.request
  pub dropped : OnTrue d.dropped ((entry.answer.not_found ≡ true) ⊎ ((most : ℕ) × (limit ≡ Some most) × (most ≤ d.reloads)))

-- one of them has this number
abbrev pub HasNumber : List Due → ℕ → Type 0
HasNumber [] n = ⊥
HasNumber (d ∷ due) n = (d.number ≡ n) ⊎ HasNumber due n

-- every entry whose time is over ended, or is one of them
abbrev pub AreAllDue : ℕ → List Record → List Due → Type 0
AreAllDue now history due = (e : Entry) → HasLoad history e → e.timeout < now → HasEnd history e.number ⊎ HasNumber due e.number

-- what is known once the versions were compared: every entry ended; or each live entry is over the newest version, where that counts,
-- and what is due
pub record AreListed (settings : DbConf) (brought : Request → ℕ) (limit : Option ℕ) (now : ℕ) (history : List Record) (due : List Due) : Type 0 where
  pub current : IsCurrent settings history
  pub each : All (IsDue brought limit now history) due
  pub all : AreAllDue now history due

abbrev pub IsChecked : Checked → DbConf → (Request → ℕ) → Option ℕ → ℕ → List Record → Type 0
IsChecked checked.Emptied settings brought limit now history = NoneLive history
IsChecked (checked.Listed due) settings brought limit now history = AreListed settings brought limit now history due.items

-- every entry was ended where the newest version is outdated, and only there
abbrev pub EmptiesOutdated : Checked → Bool → Type 0
EmptiesOutdated checked.Emptied outdated = outdated ≡ true
EmptiesOutdated (checked.Listed due) outdated = outdated ≡ false

-- why a call of a cache gave up, as a lookup says it
abbrev pub fault_from : CacheFault → LookupFault
fault_from cache_fault.NoMemory = fault.NoMemory
fault_from (cache_fault.Spent count) = fault.Spent count

-- why a hold gave up: memory was short, or a count stands at its end, and the ends were made all the same
abbrev pub IsHoldFault : LookupFault → List Record → Type 0 → Type 0 → Type 0
IsHoldFault fault.NoMemory after last_cycle ended = Unit {0}
IsHoldFault (fault.Spent count) after last_cycle ended = IsUnmoved after last_cycle count ended
IsHoldFault (fault.SourceFault file) after last_cycle ended = ⊥
IsHoldFault (fault.TooLong file size) after last_cycle ended = ⊥

-- the time of what is answered is over before 2^63
abbrev pub EndsInTime : Answering → Type 0
EndsInTime a = (answer : Answer) → a.moment + life_of a.settings answer < 2 ^ 63

-- what is to be loaded again for those that are due, over one version, polled after at least `epoch` invalidations
pub record AreAnew (history : List Record) (epoch : ℕ) (due : List Due) (loads : List (Option Loaded)) : Type 0 where
  pub answering : Answering
  pub files : Content
  pub version : version_in history answering.stamp.version ≡ Some files
  pub since : PolledSince history answering.stamp.version answering.stamp.epoch
  pub stamped : answering.stamp.epoch ≡ epoch
  pub soon : EndsInTime answering
  pub made : loads ≡ map (anew_of answering files) due

-- the request of one of them, which ended to be loaded again
abbrev pub IsPending : List Due → Request → Type 0
IsPending [] request = ⊥
IsPending (d ∷ due) request = ((d.ended ≡ true) × (d.dropped ≡ false) × (d.request ≡ request)) ⊎ IsPending due request

-- of each entry that ended to be loaded again this is known, or its request is one of these
abbrev pub AreLoadedBut : ℕ → (Request → Type 0) → List Record → Type 0
AreLoadedBut arena those history =
    (number : ℕ) (before : List Record) (e : Entry) → IsPrefix (End number Replaced ∷ before) history → load_of before number ≡ Some e →
    IsLoadedAgain arena (End number Replaced ∷ before) e.request history ⊎ those e.request

-- and that, unless there are no more compactions, by the count of their beginnings and ends
abbrev pub LoadsBut : ℕ → ℕ → (Request → Type 0) → List Record → Type 0
LoadsBut arena cycle those history = AreLoadedBut arena those history ⊎ (last_count ≤ cycle)

-- it is ended to be loaded again, and counted as such
abbrev pub IsRenewed : (Request → ℕ) → List Record → Due → Type 0
IsRenewed brought history d = d.ended ≡ true → d.dropped ≡ false → d.reloads + 1 ≤ brought d.request + replaced history d.request

-- the writer once it was compacted
abbrev pub compacted_by : Writer → Writer
compacted_by w = record w { cache = record w.cache { cycle = w.cache.cycle + 2; used = all_words w.cache.entries } }

-- the due entries are ended, or the database was invalidated after `epoch` invalidations
abbrev pub AreOver : ℕ → List Record → List Due → Type 0
AreOver epoch history due = (epoch < invalidations history) ⊎ ((n : ℕ) → HasNumber due n → HasEnd history n)

-- a tick of a database that is cached did its work
abbrev pub IsTickedIfCached : Db → DbConf → (Request → ℕ) → Option ℕ → ℕ → PassAt → PassAt → Type 0
IsTickedIfCached which settings brought limit now before after = OnTrue settings.enabled (IsTickedAt which settings brought limit now before after)
