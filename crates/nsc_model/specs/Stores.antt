-- What the calls of a store give a caller who had seen one beginning of the database's history before, and has seen another one
-- after it.
use Rattle.std.specs.Prelude.{◌≡◌, ◌≢◌, ℕ, ◌+◌, ◌^◌, ◌<◌, ◌≤◌, ◌⊎◌, Bool, false, All, List, ◌∷◌, length, map, sum_by, Option, Some}
use Rattle.std.specs.Bool.{OnFalse, OnTrue}
use Rattle.nsc_base.specs.Nodes.{node_words}
use Rattle.nsc_model.specs.declared.answer.Request.{Request}
use Rattle.nsc_model.specs.declared.record.Ending.TheVariants.{Replaced}
use Rattle.nsc_model.specs.declared.record.Record.{Record}
use Rattle.nsc_model.specs.declared.record.Record.TheVariants.{Change, End, Load}
use Rattle.nsc_model.specs.declared.conf.DbConf.{DbConf}
use Rattle.nsc_model.specs.declared.store.Given.{Given}
use Rattle.nsc_model.specs.declared.store.Given.TheVariants as given
use Rattle.nsc_model.specs.declared.kind.Db.{Db}
use Rattle.nsc_model.specs.declared.kind.FileId.{FileId}
use Rattle.nsc_model.specs.declared.store.LookupFault.{LookupFault}
use Rattle.nsc_model.specs.declared.store.LookupFault.TheVariants as fault
use Rattle.nsc_model.specs.declared.fault.CacheFault.{CacheFault}
use Rattle.nsc_model.specs.declared.fault.CacheFault.TheVariants as cache_fault
use Rattle.nsc_model.specs.declared.store.Stats.{Stats}
use Rattle.nsc_model.specs.declared.store.Why.{Why}
use Rattle.nsc_model.specs.declared.store.Why.TheVariants as why
use Rattle.nsc_model.specs.Answers.{answer_of}
use Rattle.nsc_model.specs.Content.{Content}
use Rattle.nsc_model.specs.Files.{file_limit}
use Rattle.nsc_model.specs.Entry.{Entry, kept_limit}
use Rattle.nsc_model.specs.Growth.{IsArena, MayGrow, arena_after}
use Rattle.nsc_model.specs.History.{Answered, HasLoad, HasEnd, IsFit, IsLive, EndedAfter, IsPrefix, Legal, LookedBetween, NoneLive, invalidations, load_of, loads, version_in}
use Rattle.nsc_model.specs.Image.{ImageBytes, image_version, saved_of}
use Rattle.nsc_model.specs.Live.{AreLive}
use Rattle.nsc_model.specs.Reads.{FaultsStay, FileFailed, IsLookedUp, IsMade, IsOfHeld}
use Rattle.nsc_model.specs.Reloads.{Reloaded}
use Rattle.nsc_model.specs.Machine.{Kept, entry_words, last_count, life_of, room_of}

-- what a call leaves of what its caller has seen: it goes on from what was seen before, is legal, and the files of its versions are within
-- their limits
pub record Continues (seen after : List Record) : Type 0 where
  pub before : IsPrefix seen after
  pub legal : Legal after
  pub fit : All IsFit after

-- the reply
abbrev pub reply_of : Given → List ℕ
reply_of (given.Hit bytes number) = bytes
reply_of (given.Loaded bytes number) = bytes
reply_of (given.Fresh bytes why) = bytes

-- the reply of an entry that was live in a moment of the call
pub record IsHit (after : List Record) (request : Request) (bytes : List ℕ) (number : ℕ) : Type 0 where
  pub entry : Entry
  pub live : IsLive after entry
  pub numbered : entry.number ≡ number
  pub answers : entry.request ≡ request
  pub said : entry.answer.bytes ≡ bytes

-- the reply of an entry that was inserted in the call; none that had been seen before was live
pub record IsLoaded (settings : DbConf) (now : ℕ) (seen after : List Record) (request : Request) (bytes : List ℕ) (number : ℕ) : Type 0 where
  pub entry : Entry
  pub inserted : HasLoad after entry
  pub numbered : entry.number ≡ number
  pub answers : entry.request ≡ request
  pub said : entry.answer.bytes ≡ bytes
  pub timeout : entry.timeout ≡ now + life_of settings entry.answer
  pub new : HasLoad seen entry → ⊥

-- the words that live entries take
abbrev pub words_of : List Entry → ℕ
words_of entries = sum_by entry_words entries

-- a call loaded CYCLE as 2^62, at which there are no more compactions: by how often the pass has begun a search in place, and by the
-- CYCLE that it loaded last
abbrev pub FoundLastCycle : ℕ → ℕ → ℕ → Type 0
FoundLastCycle before_searches after_searches last = (before_searches < after_searches) × (last ≡ last_count)

-- ---- entries that ended to be loaded again

-- some version of the history has this content
abbrev pub HasContent : Content → List Record → Type 0
HasContent files history = (n : ℕ) × (before : List Record) × IsPrefix (Change n files ∷ before) history

-- an entry of the request was inserted after these records
abbrev pub IsLoadedAfter : List Record → Request → List Record → Type 0
IsLoadedAfter ended request history = (e : Entry) × (before : List Record) × IsPrefix ended before × IsPrefix (Load e ∷ before) history × (e.request ≡ request)

-- the answer over some version is too long to be kept
abbrev pub IsTooLongToKeep : Request → List Record → Type 0
IsTooLongToKeep request history = (files : Content) × HasContent files history × (kept_limit < length (answer_of files request).bytes)

-- at some moment after these records the answer over some version wanted more words than the live entries left of the arena
pub record FoundNoRoom (arena : ℕ) (ended : List Record) (request : Request) (history : List Record) : Type 0 where
  pub moment : List Record
  pub since : IsPrefix ended moment
  pub until : IsPrefix moment history
  pub files : Content
  pub known : HasContent files history
  pub entries : List Entry
  pub live : AreLive moment entries
  pub full : arena < words_of entries + node_words (length request.key) (length (answer_of files request).bytes)

-- what became of a request whose entry ended with these records: an entry of it was inserted later, or no more can be counted, or its
-- answer was too long, or there was no room
abbrev pub IsLoadedAgain : ℕ → List Record → Request → List Record → Type 0
IsLoadedAgain arena ended request history = IsLoadedAfter ended request history ⊎ ((last_count ≤ loads history) ⊎ (IsTooLongToKeep request history ⊎ FoundNoRoom arena ended request history))

-- so of each entry that ended to be loaded again
abbrev pub AreLoadedAgain : ℕ → List Record → Type 0
AreLoadedAgain arena history = (number : ℕ) (before : List Record) (e : Entry) → IsPrefix (End number Replaced ∷ before) history → load_of before number ≡ Some e → IsLoadedAgain arena (End number Replaced ∷ before) e.request history

-- `free` words of the table of this size are free, those that no live entry takes, and the live entries leave fewer than are needed of
-- every table that it may become
pub record HasNoRoom (settings : DbConf) (words need free : ℕ) (history : List Record) : Type 0 where
  pub entries : List Entry
  pub live : AreLive history entries
  pub arena : ℕ
  pub newest : IsArena settings words arena
  pub rest : free + words_of entries ≡ arena
  pub largest : (doublings : ℕ) → MayGrow settings doublings → arena_after settings doublings < words_of entries + need

-- an entry needs more words than are free of the table of this size, or of any that it may become, unless there are no more compactions
pub record IsFull (settings : DbConf) (words : ℕ) (history : List Record) (last_cycle : Type 0) (request : Request) (bytes : List ℕ) (need free : ℕ) : Type 0 where
  pub needed : need ≡ node_words (length request.key) (length bytes)
  pub less : free < need
  pub left : HasNoRoom settings words need free history ⊎ last_cycle

-- why a reply that was made anew is not kept, where the table has `words` words
abbrev pub IsWhy : Why → DbConf → ℕ → List Record → List Record → Type 0 → Request → List ℕ → Type 0
IsWhy why.Disabled settings words seen after last_cycle request bytes = settings.enabled ≡ false
IsWhy (why.TooLarge size) settings words seen after last_cycle request bytes = (size ≡ length bytes) × (kept_limit < size)
IsWhy (why.Discarded loaded epoch) settings words seen after last_cycle request bytes = (invalidations seen ≤ loaded) × (loaded < epoch) × (epoch ≤ invalidations after)
IsWhy (why.Present number) settings words seen after last_cycle request bytes = (e : Entry) × IsLive after e × (e.number ≡ number) × (e.request ≡ request) × (HasLoad seen e → ⊥)
IsWhy (why.Spent count) settings words seen after last_cycle request bytes = (count ≡ last_count) × (loads after ≡ count)
IsWhy (why.Full need free) settings words seen after last_cycle request bytes = IsFull settings words after last_cycle request bytes need free

-- a new version was needed, and the count of versions stands at its end
pub record IsSpent (after : List Record) (count : ℕ) : Type 0 where
  pub last : count ≡ last_count
  pub content : Content
  pub version : version_in after count ≡ Some content

-- why a lookup gave up: memory was short, or a count stands at its end, as what was seen says, and no count of faults changed; or
-- a file gave no answer, and is at fault
abbrev pub IsFault : LookupFault → List Record → ℕ → ℕ → (FileId → ℕ) → (FileId → ℕ) → Type 0
IsFault fault.NoMemory after before_faults after_faults before_each after_each = FaultsStay before_faults after_faults before_each after_each
IsFault (fault.Spent count) after before_faults after_faults before_each after_each = IsSpent after count × FaultsStay before_faults after_faults before_each after_each
IsFault (fault.SourceFault file) after before_faults after_faults before_each after_each = FileFailed file before_faults after_faults before_each after_each
IsFault (fault.TooLong file size) after before_faults after_faults before_each after_each = FileFailed file before_faults after_faults before_each after_each × (file_limit < size)

-- no entry of the request answers: the database is not cached, or each one that had been seen is ended
abbrev pub IsMissed : DbConf → List Record → List Record → Request → Type 0
IsMissed settings seen after request = (settings.enabled ≡ false) ⊎ EndedAfter seen after request

-- a lookup gives up only where no entry answers, unless memory was short
abbrev pub IsMissedAt : LookupFault → DbConf → List Record → List Record → Request → Type 0
IsMissedAt fault.NoMemory settings seen after request = Unit {0}
IsMissedAt _ settings seen after request = IsMissed settings seen after request

-- which entry gave the reply of a lookup, or why none did
abbrev pub IsGiven : Given → DbConf → ℕ → ℕ → List Record → List Record → Type 0 → Request → Type 0
IsGiven (given.Hit bytes number) settings words now seen after last_cycle request = IsHit after request bytes number
IsGiven (given.Loaded bytes number) settings words now seen after last_cycle request = IsLoaded settings now seen after request bytes number × EndedAfter seen after request
IsGiven (given.Fresh bytes why) settings words now seen after last_cycle request = IsWhy why settings words seen after last_cycle request bytes × IsMissed settings seen after request

-- a lookup gave up, for this cause, and no entry answers, unless memory was short
pub record GivesUp (settings : DbConf) (seen after : List Record) (request : Request) (before_faults after_faults : ℕ) (before_each after_each : FileId → ℕ) (cause : LookupFault) : Type 0 where
  pub missed : IsMissedAt cause settings seen after request
  pub fault : IsFault cause after before_faults after_faults before_each after_each

-- a lookup gave this, by what its caller has seen, and by the words of the table that it has come to: its reply answers the request, and is
-- not kept where the database is not cached
pub record GivesAnswer (settings : DbConf) (words now : ℕ) (seen after : List Record) (last_cycle : Type 0) (request : Request) (g : Given) : Type 0 where
  pub answered : Answered seen after request (reply_of g)
  pub source : IsGiven g settings words now seen after last_cycle request
  pub uncached : OnFalse settings.enabled (g ≡ given.Fresh (reply_of g) why.Disabled)

-- a lookup gave this, by its files: by what it read of them, and by those that are held
pub record IsOfFiles (which : Db) (before_reads after_reads : FileId → ℕ) (latest : FileId → Option (Option (List ℕ))) (held : Option Content) (request : Request) (g : Given) : Type 0 where
  pub made : IsMade which before_reads after_reads latest request g
  pub of_held : IsOfHeld held which request (reply_of g)

-- ---- invalidations, counts and ticks

-- an invalidation: its number is the count of invalidations, which was not at its end, and was not before, and no entry is live
pub record IsEmptied (seen after : List Record) (epoch : ℕ) : Type 0 where
  pub unspent : invalidations seen ≢ last_count
  pub last : invalidations after ≡ epoch
  pub new : invalidations seen < epoch
  pub none : NoneLive after

-- a count stands at its end: that of the invalidations; or CYCLE, so that the words of ended entries are not free, though the entries
-- ended that were to end
pub record IsUnmoved (after : List Record) (last_cycle : Type 0) (count : ℕ) (ended : Type 0) : Type 0 where
  pub last : count ≡ last_count
  pub cause : (invalidations after ≡ count) ⊎ (last_cycle × ended)

-- why an invalidation gave up
abbrev pub IsInvalidateFault : CacheFault → List Record → Type 0 → Type 0
IsInvalidateFault cache_fault.NoMemory after last_cycle = Unit {0}
IsInvalidateFault (cache_fault.Spent count) after last_cycle = IsUnmoved after last_cycle count (NoneLive after)

-- the counts are those of this history, and the words those of its live entries, in the table of this size
pub record IsCounted (settings : DbConf) (words : ℕ) (after : List Record) (stats : Stats) : Type 0 where
  pub entries : List Entry
  pub live : AreLive after entries
  pub counted : stats.entries ≡ length entries
  pub taken : stats.compactions < 2 ^ 61 → stats.used ≡ words_of entries
  pub invalidations_are : stats.invalidations ≡ invalidations after
  pub within : stats.used ≤ stats.arena
  pub newest : IsArena settings words stats.arena

-- the bytes are the image, in version 3, of the live entries of this history, each with any count of reloads
pub record IsImageOf (which : Db) (history : List Record) (bytes : List ℕ) : Type 0 where
  pub entries : List Kept
  pub live : AreLive history (map (λ k. k.entry) entries)
  pub spelled : ImageBytes which image_version (map saved_of entries) bytes

-- a tick at this moment looked at a version, and the stale entries ended: every one that had been seen whose time was over, and, if
-- changes of the files count, each whose version is another one
pub record EndsStale (settings : DbConf) (now : ℕ) (seen after : List Record) : Type 0 where
  pub version : ℕ
  pub looked : LookedBetween seen after version
  pub over : (e : Entry) → HasLoad seen e → e.timeout < now → HasEnd after e.number
  pub outdated : OnTrue settings.check_files ((e : Entry) → HasLoad seen e → e.version ≢ version → HasEnd after e.number)

-- a tick at this moment read the files, looked at the version that they are, ended what was stale, and loaded again what was to be
pub record IsTicked (which : Db) (before_reads after_reads : FileId → ℕ) (latest : FileId → Option (Option (List ℕ))) (settings : DbConf) (brought : Request → ℕ) (limit : Option ℕ) (now : ℕ) (seen after : List Record) (last_cycle : Type 0) : Type 0 where
  pub ends : EndsStale settings now seen after
  pub content : Content
  pub version_is : version_in after ends.version ≡ Some content
  pub files : IsLookedUp which before_reads after_reads latest content
  pub reloaded : Reloaded brought limit after
  pub again : AreLoadedAgain (room_of settings) after ⊎ last_cycle

-- why a tick gave up: as a lookup does; or no count of faults changed, and one that its ends need stands at its end
abbrev pub IsTickFault : LookupFault → DbConf → ℕ → List Record → List Record → Type 0 → ℕ → ℕ → (FileId → ℕ) → (FileId → ℕ) → Type 0
IsTickFault (fault.Spent count) settings now seen after last_cycle before_faults after_faults before_each after_each =
    (IsSpent after count ⊎ IsUnmoved after last_cycle count (EndsStale settings now seen after)) × FaultsStay before_faults after_faults before_each after_each
IsTickFault other settings now seen after last_cycle before_faults after_faults before_each after_each = IsFault other after before_faults after_faults before_each after_each

-- ---- a caller's pass at two moments

-- What a pass is at a moment:
-- the history that the pass has seen, and the records that the calls through the pass added to the history, both newest first;
-- the counts of its reads that failed, in all and of each file; how often it read each file, and what the latest read gave, if that is told;
-- how often it has begun a search in place; the CYCLE that its latest search loaded first, and the one that it loaded last;
-- the number of words of its table; and whether the pass has seen that another table goes on in place of that one.
pub record PassAt : Type 0 where
  pub seen : List Record
  pub made : List Record
  pub faults : ℕ
  pub file_faults : FileId → ℕ
  pub reads : FileId → ℕ
  pub latest : FileId → Option (Option (List ℕ))
  pub searches : ℕ
  pub first : ℕ
  pub last : ℕ
  pub words : ℕ
  pub retired : Bool

-- between two moments the pass loaded CYCLE as 2^62, at which there are no more compactions
abbrev pub LoadedLastCycle : PassAt → PassAt → Type 0
LoadedLastCycle before after = FoundLastCycle before.searches after.searches after.last

-- no count of faults changed
abbrev pub StaysCalm : PassAt → PassAt → Type 0
StaysCalm before after = FaultsStay before.faults after.faults before.file_faults after.file_faults

-- a lookup gave this at a moment
abbrev pub GivesAnswerAt : DbConf → ℕ → PassAt → PassAt → Request → Given → Type 0
GivesAnswerAt settings now before after request g = GivesAnswer settings after.words now before.seen after.seen (LoadedLastCycle before after) request g

-- and it is of the files that the pass read, or of those that are held
abbrev pub IsOfFilesAt : Db → Option Content → PassAt → PassAt → Request → Given → Type 0
IsOfFilesAt which held before after request g = IsOfFiles which before.reads after.reads after.latest held request g

-- a lookup gave up for this cause
abbrev pub GivesUpAt : DbConf → PassAt → PassAt → Request → LookupFault → Type 0
GivesUpAt settings before after request cause =
    GivesUp settings before.seen after.seen request before.faults after.faults before.file_faults after.file_faults cause

-- a tick at a moment did its work
abbrev pub IsTickedAt : Db → DbConf → (Request → ℕ) → Option ℕ → ℕ → PassAt → PassAt → Type 0
IsTickedAt which settings brought limit now before after =
    IsTicked which before.reads after.reads after.latest settings brought limit now before.seen after.seen (LoadedLastCycle before after)

-- a tick at a moment gave up for this cause
abbrev pub IsTickFaultAt : DbConf → ℕ → PassAt → PassAt → LookupFault → Type 0
IsTickFaultAt settings now before after cause =
    IsTickFault cause settings now before.seen after.seen (LoadedLastCycle before after) before.faults after.faults before.file_faults after.file_faults
