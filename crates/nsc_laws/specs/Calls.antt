-- The machine over whole runs, with the history that it makes: its events are moves of the core, made by one caller.
use Rattle.std.specs.Prelude.{◌≡◌, ℕ, ◌+◌, List, [], ◌∷◌, ◌++◌, map, All, Option, Some, Result, Ok, Err}
use Rattle.nsc_model.specs.declared.kind.Db.{Db}
use Rattle.nsc_model.specs.declared.answer.Request.{Request}
use Rattle.nsc_model.specs.declared.record.Record.{Record}
use Rattle.nsc_model.specs.Content.{Content}
use Rattle.nsc_model.specs.Files.{part_of}
use Rattle.nsc_model.specs.Entry.{Entry}
use Rattle.nsc_model.specs.declared.conf.DbConf.{DbConf}
use Rattle.nsc_model.specs.History.{changes, loads, invalidations, newest, version_in, IsLive, Legal, IsPrefix, Answered}
use Rattle.nsc_laws.specs.Core.{Core, Move, Files, Begin, Look, Note, Fetch, PollStep, Insert, Finish, Empty, Compact, Reply, AreMoves, Replies, opening}
use Rattle.nsc_model.specs.Live.{AreLive}
use Rattle.nsc_model.specs.Machine.{Kept, Cache, Passed, Stopped, Turn, lookup, tick, ticked_by, invalidated}

-- what never changes of the entries
abbrev pub entries_of : List Kept → List Entry
entries_of entries = map (λ k. k.entry) entries

-- the cache is what its history says: the newest version with its number, the live entries in rising number, and the counts
pub record Tells (history : List Record) (cache : Cache) : Type 0 where
  pub legal : Legal history
  pub newest_is : newest history ≡ Some cache.sources
  pub counted : changes history ≡ cache.newest_version + 1
  pub held : version_in history cache.newest_version ≡ Some cache.sources
  pub loads_are : loads history ≡ cache.inserted
  pub epochs_are : invalidations history ≡ cache.epoch
  pub entries_are : AreLive history (entries_of cache.entries)

-- a move of this caller, or of the entries, where the caller has seen this history at the start of its calls; the files stay
abbrev pub IsOwn : ℕ → List Record → Move → Type 0
IsOwn a history (Files content) = ⊥
IsOwn a history (Begin caller request seen) = (caller ≡ a) × (seen ≡ history)
IsOwn a history (Look caller found) = caller ≡ a
IsOwn a history (Note caller) = caller ≡ a
IsOwn a history (Fetch caller) = caller ≡ a
IsOwn a history (PollStep caller) = caller ≡ a
IsOwn a history (Insert caller request timeout) = caller ≡ a
IsOwn a history (Finish number cause) = Unit {0}
IsOwn a history Empty = Unit {0}
IsOwn a history Compact = Unit {0}
IsOwn a history (Reply caller bytes) = caller ≡ a

-- a move of this caller, or of the entries; the files stay
abbrev pub IsBy : ℕ → Move → Type 0
IsBy a (Files content) = ⊥
IsBy a (Begin caller request seen) = caller ≡ a
IsBy a (Look caller found) = caller ≡ a
IsBy a (Note caller) = caller ≡ a
IsBy a (Fetch caller) = caller ≡ a
IsBy a (PollStep caller) = caller ≡ a
IsBy a (Insert caller request timeout) = caller ≡ a
IsBy a (Finish number cause) = Unit {0}
IsBy a Empty = Unit {0}
IsBy a Compact = Unit {0}
IsBy a (Reply caller bytes) = caller ≡ a

-- the files become these, and then the core moves on by moves of this caller alone
pub record MovesOver (db : Db) (a : ℕ) (sources : Content) (old new : Core) : Type 0 where
  pub moves : List Move
  pub own : All (IsBy a) moves
  pub runs : AreMoves db moves (record old { sources = sources }) new

-- a core that a run from an opening reaches, with a caller that has seen some front of its history, and the cache that tells
-- the whole of it
pub record Drives (db : Db) (a : ℕ) (core : Core) (cache : Cache) : Type 0 where
  pub first : Content
  pub moves : List Move
  pub runs : AreMoves db moves (opening db first) core
  pub seen_before : IsPrefix (core.callers a).seen core.history
  pub tells : Tells core.history cache

-- the core moves on by moves of this caller, who has seen the whole history before them, and gains exactly these records;
-- the files stay
pub record IsMoved (db : Db) (a : ℕ) (old : Core) (adds : List Record) (after : Cache) (new : Core) : Type 0 where
  pub moves : List Move
  pub own : All (IsOwn a old.history) moves
  pub runs : AreMoves db moves old new
  pub history_is : new.history ≡ adds ++ old.history
  pub sources_stay : new.sources ≡ old.sources
  pub drives : Drives db a new after

-- and after them the caller may get this reply to this request; an entry that the reply comes from is live at that moment
pub record IsTurned (db : Db) (a : ℕ) (old : Core) (request : Request) (adds : List Record) (reply : List ℕ) (after : Cache) (new : Core) : Type 0 where
  pub moved : IsMoved db a old adds after new
  pub requested : (new.callers a).request ≡ Some request
  pub replies : Replies new a reply
  pub live : (e : Entry) → (new.callers a).taken ≡ Some e → IsLive new.history e
  pub answered : Answered old.history new.history request reply

-- the outcome of an event is moves of the core, also where it stops
abbrev pub PassesBy : Db → ℕ → Core → Result Passed Stopped → Type 0
PassesBy db a old (Ok passed) = (new : Core) × IsMoved db a old passed.adds passed.cache new
PassesBy db a old (Err stop) = (new : Core) × IsMoved db a old stop.adds stop.cache new

abbrev pub TurnsBy : Db → ℕ → Core → Request → Result Turn Stopped → Type 0
TurnsBy db a old request (Ok turn) = (new : Core) × IsTurned db a old request turn.adds turn.reply turn.cache new
TurnsBy db a old request (Err stop) = (new : Core) × IsMoved db a old stop.adds stop.cache new

-- ---- whole runs

-- an event of a database, with the files as they are at it, and its moment in seconds
pub data Event : Type 0 where
  Lookup : (content : Content) → (now : ℕ) → (request : Request) → Event
  Tick : (content : Content) → (now : ℕ) → Event
  Invalidation : Event

-- a lookup is answered, and what comes after it holds; an event that stops leaves a legal history
abbrev pub AnsweredThen : (Cache → List Record → Type 0) → List Record → Request → Result Turn Stopped → Type 0
AnsweredThen others history request (Ok turn) = Answered history (turn.adds ++ history) request turn.reply × others turn.cache (turn.adds ++ history)
AnsweredThen others history request (Err stop) = Legal (stop.adds ++ history)

abbrev pub LegalThen : (Cache → List Record → Type 0) → List Record → Result Passed Stopped → Type 0
LegalThen others history (Ok passed) = others passed.cache (passed.adds ++ history)
LegalThen others history (Err stop) = Legal (stop.adds ++ history)

-- in every run of events the history stays legal, and each reply is an answer to its request whose caller had seen the whole
-- history before it; a run ends where an event stops. The number is the version that the last tick found
abbrev pub EachAnswered : Db → DbConf → Option ℕ → List Event → ℕ → Cache → List Record → Type 0
EachAnswered db settings reloads [] ticked cache history = Legal history
EachAnswered db settings reloads (Lookup content now request ∷ events) ticked cache history =
    Legal history × AnsweredThen (EachAnswered db settings reloads events ticked) history request (lookup settings now (part_of db content) request cache)
EachAnswered db settings reloads (Tick content now ∷ events) ticked cache history =
    Legal history × LegalThen (λ after. EachAnswered db settings reloads events (ticked_by settings ticked after) after) history (tick settings reloads now (part_of db content) ticked cache)
EachAnswered db settings reloads (Invalidation ∷ events) ticked cache history =
    Legal history × LegalThen (EachAnswered db settings reloads events ticked) history (invalidated cache)
