-- The core of one database: what its callers may do in any order, and the history that this makes.
use Rattle.std.specs.Prelude.{◌≡◌, ◌≢◌, ℕ, ◌+◌, ◌⊎◌, ◌==◌, if◌then◌else◌, List, [], ◌∷◌, ◌++◌, Option, Some, None}
use Rattle.nsc_model.specs.declared.kind.Db.{Db}
use Rattle.nsc_model.specs.declared.answer.Request.{Request}
use Rattle.nsc_model.specs.declared.record.Ending.{Ending}
use Rattle.nsc_model.specs.declared.record.Ending.TheVariants.{Invalidated}
use Rattle.nsc_model.specs.declared.record.Record.{Record}
use Rattle.nsc_model.specs.declared.record.Record.TheVariants.{Change, Poll, Load, End, Invalid}
use Rattle.nsc_model.specs.Content.{Content}
use Rattle.nsc_model.specs.Files.{part_of}
use Rattle.nsc_model.specs.Entry.{Entry}
use Rattle.nsc_model.specs.Live.{AreLive}
use Rattle.nsc_model.specs.Answers.{answer_of, request_beside}
use Rattle.nsc_model.specs.History.{changes, loads, invalidations, newest, version_in, IsLive, NoneLiveOf, Allows, IsPrefix, Answered}

-- A caller: its request, or none where it only learns what happened, and what it had seen at the start of its call; the number of invalidations that it noted, the
-- content that it fetched since, and the version that it polled since; and of this call the load that it took and the
-- version that it polled
pub record Caller : Type 0 where
  pub request : Option Request
  pub seen : List Record
  pub noted : Option ℕ
  pub fetched : Option Content
  pub version : Option ℕ
  pub taken : Option Entry
  pub asked : Option ℕ

-- the files as they are, the history, and each caller by its number
pub record Core : Type 0 where
  pub sources : Content
  pub history : List Record
  pub callers : ℕ → Caller

-- a caller that has seen, noted, fetched, polled and found nothing
abbrev pub new_caller : Caller
new_caller = record { request = None; seen = []; noted = None; fetched = None; version = None; taken = None; asked = None }

-- any files, and the history of their first version
abbrev pub opening : Db → Content → Core
opening db sources = record { sources = sources; history = Change 0 (part_of db sources) ∷ []; callers = λ a. new_caller }

-- one caller becomes this
abbrev pub with_caller : (ℕ → Caller) → ℕ → Caller → ℕ → Caller
with_caller callers a caller b = if a == b then caller else callers b

pub data Move : Type 0 where
  Files : (content : Content) → Move
  Begin : (caller : ℕ) → (request : Option Request) → (seen : List Record) → Move
  Look : (caller : ℕ) → (found : Option Entry) → Move
  Note : (caller : ℕ) → Move
  Fetch : (caller : ℕ) → Move
  PollStep : (caller : ℕ) → Move
  Insert : (caller : ℕ) → (request : Request) → (timeout : ℕ) → Move
  Finish : (number : ℕ) → (cause : Ending) → Move
  Empty : Move
  Compact : Move
  Reply : (caller : ℕ) → (bytes : List ℕ) → Move

-- the caller does this, and nothing else changes
abbrev pub Becomes : Core → ℕ → Caller → Core → Type 0
Becomes old a caller new = new ≡ record old { callers = with_caller old.callers a caller }

-- the history gains this, and nothing else changes
abbrev pub Gains : Core → List Record → Core → Type 0
Gains old more new = new ≡ record old { history = more ++ old.history }

-- the record of a poll of this content, and the number of the version that it finds: an equal content confirms the newest
-- version, a different one is the next
abbrev pub IsPoll : List Record → Content → Record → ℕ → Type 0
IsPoll history content poll n =
    ((newest history ≡ Some content) × (n + 1 ≡ changes history) × (poll ≡ Poll n)) ⊎ ((newest history ≢ Some content) × (n ≡ changes history) × (poll ≡ Change n content))

-- the requests of which a caller may insert an entry over a content: its own, and the id request beside it, if there is one
abbrev pub MayInsert : Content → Caller → Request → Type 0
MayInsert content caller request = (caller.request ≡ Some request) ⊎ ((own : Request) × (caller.request ≡ Some own) × (request_beside content own ≡ Some request))

-- the entry that a caller inserts for a request: it is over the caller's version, if the caller may insert one of the request, noted the
-- present number of invalidations, and no entry of the request is live
pub record IsInsertion (history : List Record) (caller : Caller) (request : Request) (timeout : ℕ) (e : Entry) : Type 0 where
  pub content : Content
  pub allowed : MayInsert content caller request
  pub request_is : e.request ≡ request
  pub version_is : caller.version ≡ Some e.version
  pub noted_is : caller.noted ≡ Some (invalidations history)
  pub none_live : NoneLiveOf history e.request
  pub held : version_in history e.version ≡ Some content
  pub number_is : e.number ≡ loads history
  pub answer_is : e.answer ≡ answer_of content e.request
  pub timeout_is : e.timeout ≡ timeout

-- the ends of entries by an invalidation, one after the other
abbrev pub ended_all : List Entry → List Record → List Record
ended_all [] before = before
ended_all (e ∷ entries) before = ended_all entries (End e.number Invalidated ∷ before)

-- a reply: of the load that the caller took in this call, or its answer over the version that it polled in this call
pub record Replies (core : Core) (a : ℕ) (bytes : List ℕ) : Type 0 where
  pub request : Request
  pub request_is : (core.callers a).request ≡ Some request
  pub source : ((e : Entry) × ((core.callers a).taken ≡ Some e) × (e.answer.bytes ≡ bytes))
      ⊎ ((n : ℕ) × (content : Content) × ((core.callers a).asked ≡ Some n) × (version_in core.history n ≡ Some content) × ((answer_of content request).bytes ≡ bytes))

-- one move of the core of a database
abbrev pub IsMove : Db → Move → Core → Core → Type 0
IsMove db (Files content) old new = new ≡ record old { sources = content }
IsMove db (Begin a request seen) old new =
    IsPrefix (old.callers a).seen seen × IsPrefix seen old.history × Becomes old a (record (old.callers a) { request = request; seen = seen; taken = None; asked = None }) new
IsMove db (Look a None) old new = Becomes old a (record (old.callers a) { taken = None }) new
IsMove db (Look a (Some e)) old new = IsLive old.history e × ((old.callers a).request ≡ Some e.request) × Becomes old a (record (old.callers a) { taken = Some e }) new
IsMove db (Note a) old new = Becomes old a (record (old.callers a) { noted = Some (invalidations old.history); fetched = None; version = None }) new
IsMove db (Fetch a) old new = ((epoch : ℕ) × ((old.callers a).noted ≡ Some epoch)) × Becomes old a (record (old.callers a) { fetched = Some (part_of db old.sources) }) new
IsMove db (PollStep a) old new =
    (content : Content) × (poll : Record) × (n : ℕ) × ((old.callers a).fetched ≡ Some content) × IsPoll old.history content poll n
    × (new ≡ record old { history = poll ∷ old.history; callers = with_caller old.callers a (record (old.callers a) { version = Some n; asked = Some n }) })
IsMove db (Insert a request timeout) old new =
    ((e : Entry) × IsInsertion old.history (old.callers a) request timeout e × Gains old (Load e ∷ []) new)
    ⊎ (((e : Entry) → IsInsertion old.history (old.callers a) request timeout e → ⊥) × (new ≡ old))
IsMove db (Finish number cause) old new = (e : Entry) × IsLive old.history e × (e.number ≡ number) × Allows cause e × Gains old (End number cause ∷ []) new
IsMove db Empty old new = (entries : List Entry) × AreLive old.history entries × (new ≡ record old { history = Invalid (invalidations old.history + 1) ∷ ended_all entries old.history })
IsMove db Compact old new = new ≡ old
IsMove db (Reply a bytes) old new = Replies old a bytes × (new ≡ old)

-- moves, one after another
abbrev pub AreMoves : Db → List Move → Core → Core → Type 0
AreMoves db [] old new = new ≡ old
AreMoves db (move ∷ moves) old new = (mid : Core) × IsMove db move old mid × AreMoves db moves mid new

-- a reply that a core may give is an answer to its request, between what the caller had seen at the start of its call and
-- the history at the reply
abbrev pub RepliesAnswer : Core → Type 0
RepliesAnswer core = (a : ℕ) (bytes : List ℕ) (reply : Replies core a bytes) → Answered (core.callers a).seen core.history reply.request bytes
