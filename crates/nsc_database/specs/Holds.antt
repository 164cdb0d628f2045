-- What is known after one hold of the writer's lock.
use Rattle.std.specs.Prelude.{◌≡◌, ℕ, ◌+◌, ◌<◌, ◌≤◌, ◌⊎◌, List, length, Option, Some, None}
use Rattle.nsc_base.specs.Nodes.{node_words}
use Rattle.nsc_model.specs.declared.answer.Request.{Request}
use Rattle.nsc_model.specs.declared.conf.DbConf.{DbConf}
use Rattle.nsc_model.specs.declared.fault.CacheFault.{CacheFault}
use Rattle.nsc_model.specs.declared.fault.CacheFault.TheVariants as fault
use Rattle.nsc_model.specs.declared.record.Record.{Record}
use Rattle.nsc_model.specs.Entry.{Entry, kept_limit}
use Rattle.nsc_model.specs.History.{HasLoad, IsLive, LookedBetween, NoneLiveOf, PolledSince, changes, invalidations, loads, version_in}
use Rattle.nsc_model.specs.Live.{AreLive}
use Rattle.nsc_model.specs.Machine.{last_count, next_count}
use Rattle.nsc_model.specs.Stores.{IsFull, IsHit, IsSpent, words_of}
use Rattle.nsc_writer.specs.declared.loaded.Inserted.{Inserted}
use Rattle.nsc_writer.specs.declared.loaded.Inserted.TheVariants as inserted
use Rattle.nsc_writer.specs.Loaded.{Loaded, kept_of}
use Rattle.nsc_writer.specs.Writer.{Writer}
use Rattle.nsc_sourcebook.specs.Book.{Polled}
use Rattle.nsc_turns.specs.declared.entries.HitOrMiss.{HitOrMiss}
use Rattle.nsc_turns.specs.declared.entries.HitOrMiss.TheVariants as looked

-- a look for a live entry of the request: its reply, or the number of invalidations where none is live
abbrev pub IsLooked : HitOrMiss → List Record → Request → List ℕ → Type 0
IsLooked (looked.Hit hit) after request reply = IsHit after request reply hit.number
IsLooked (looked.Missed epoch) after request reply = (epoch ≡ invalidations after) × NoneLiveOf after request

-- this content is a version, polled after at least `epoch` invalidations
pub record IsPolledVersion (seen : List Record) (epoch : ℕ) (polled : Polled) : Type 0 where
  pub epoch_is : polled.stamp.epoch ≡ epoch
  pub version : version_in seen polled.stamp.version ≡ Some polled.content
  pub since : PolledSince seen polled.stamp.version polled.stamp.epoch

-- a poll of this content, after at least `epoch` invalidations
pub record IsPolled (seen after : List Record) (epoch : ℕ) (polled : Polled) : Type 0 where
  pub epoch_is : polled.stamp.epoch ≡ epoch
  pub version : version_in after polled.stamp.version ≡ Some polled.content
  pub since : PolledSince after polled.stamp.version epoch
  pub newest : changes after ≡ polled.stamp.version + 1
  pub looked : LookedBetween seen after polled.stamp.version

-- why a poll could not be entered: memory was short, or a new version cannot be counted
abbrev pub IsPollFault : CacheFault → List Record → Type 0
IsPollFault fault.NoMemory after = Unit {0}
IsPollFault (fault.Spent count) after = IsSpent after count

-- ---- insertions

-- the words that are free are those of the arena that no live entry takes
pub record HasFree (arena free : ℕ) (history : List Record) : Type 0 where
  pub entries : List Entry
  pub live : AreLive history entries
  pub rest : free + words_of entries ≡ arena

-- an entry needs more words than are free of a table of `arena` words, unless there are no more compactions
pub record FindsNoRoom (arena : ℕ) (last_cycle : Type 0) (loaded : Loaded) (after : List Record) (need free : ℕ) : Type 0 where
  pub needed : need ≡ node_words (length loaded.request.key) (length loaded.answer.bytes)
  pub less : free < need
  pub left : HasFree arena free after ⊎ last_cycle

-- what became of an insertion, where this is what it is to find no room
abbrev pub IsInsertedOr : (ℕ → ℕ → Type 0) → Inserted → Loaded → List Record → List Record → Type 0
IsInsertedOr no_room (inserted.Done number) loaded seen after = HasLoad after (kept_of loaded number).entry × (loads seen ≤ number)
IsInsertedOr no_room (inserted.TooLarge size) loaded seen after = (size ≡ length loaded.answer.bytes) × (kept_limit < size)
IsInsertedOr no_room (inserted.Discarded noted epoch) loaded seen after = (noted ≡ loaded.stamp.epoch) × (epoch ≡ invalidations after) × (noted < epoch)
IsInsertedOr no_room (inserted.Present number) loaded seen after = (e : Entry) × IsLive after e × (e.number ≡ number) × (e.request ≡ loaded.request)
IsInsertedOr no_room (inserted.Spent count) loaded seen after = (count ≡ last_count) × (loads after ≡ count)
IsInsertedOr no_room (inserted.Full need free) loaded seen after = no_room need free

-- of an insertion into a table of `arena` words; there may be no more compactions
abbrev pub IsInserted : ℕ → Type 0 → Inserted → Loaded → List Record → List Record → Type 0
IsInserted arena last_cycle said loaded seen after = IsInsertedOr (FindsNoRoom arena last_cycle loaded after) said loaded seen after

-- and of one that was tried once more where the table could become large enough, which has `words` words then
abbrev pub IsKept : DbConf → ℕ → Type 0 → Inserted → Loaded → List Record → List Record → Type 0
IsKept settings words last_cycle said loaded seen after =
    IsInsertedOr (IsFull settings words after last_cycle loaded.request loaded.answer.bytes) said loaded seen after

-- how many words an insertion needs that found no room
abbrev pub needed_by : Inserted → Option ℕ
needed_by (inserted.Done number) = None
needed_by (inserted.TooLarge size) = None
needed_by (inserted.Discarded noted epoch) = None
needed_by (inserted.Present number) = None
needed_by (inserted.Spent count) = None
needed_by (inserted.Full need free) = Some need

-- where it found no room, the history is as before, the words that it found free are those that no entry takes, and that is counted
abbrev pub LeavesFull : Inserted → Writer → Writer → Type 0
LeavesFull (inserted.Done number) before after = Unit {0}
LeavesFull (inserted.TooLarge size) before after = Unit {0}
LeavesFull (inserted.Discarded noted epoch) before after = Unit {0}
LeavesFull (inserted.Present number) before after = Unit {0}
LeavesFull (inserted.Spent count) before after = Unit {0}
LeavesFull (inserted.Full need free) before after =
    (after.seen ≡ before.seen) × (free + after.cache.used ≡ after.layout.arena) × (after.cache.add_failed ≡ next_count before.cache.add_failed)
