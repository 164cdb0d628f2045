-- Replays, and the histories that they make: each gains exactly the records of the frames, and each reply is an answer.
use Rattle.std.specs.Prelude.{◌≡◌, ℕ, min, max, List, [], ◌∷◌, ◌++◌, None, Some, Result, Ok, Err}
use Rattle.std.specs.List.{concat}
use Rattle.nsc_model.specs.declared.kind.Db.{Db}
use Rattle.nsc_model.specs.declared.kind.Db.TheVariants.{Passwd, Group, Hosts, Services}
use Rattle.nsc_model.specs.declared.answer.Request.{Request}
use Rattle.nsc_model.specs.declared.record.Record.{Record}
use Rattle.nsc_model.specs.Kinds.{database_of}
use Rattle.nsc_model.specs.Content.{Content}
use Rattle.nsc_model.specs.Files.{with_file, part_of}
use Rattle.nsc_model.specs.Entry.{Entry}
use Rattle.nsc_model.specs.declared.conf.Conf.{Conf}
use Rattle.nsc_model.specs.Settings.{settings_of}
use Rattle.nsc_model.specs.Wire.{Asked, Look, Shutdown, Stat, Invalidate, Descriptor, Netgroup, Short, BadVersion, BadType, BadLength, request_of}
use Rattle.nsc_model.specs.History.{IsLive, Answered}
use Rattle.nsc_laws.specs.Core.{Core, Replies}
use Rattle.nsc_model.specs.Machine.{Passed, Stopped, Turn, lookup, invalidated, polled, ticked_after}
use Rattle.nsc_model.specs.Databases.{database_in, with_database}
use Rattle.nsc_laws.specs.Calls.{Drives, MovesOver}
use Rattle.nsc_model.specs.Frames as frame
use Rattle.nsc_model.specs.Frames.{Frame, Finish, Done, Bad, Long, Spent}
use Rattle.nsc_model.specs.Replay.{State, cache_of, with_cache, tick_in, with_ticked, Went, framed, last_moment, turn_of, Replayed}

-- the cores of the four databases, over the files as they are, with the caches that tell their histories; the caller holds
-- no content that it fetched before
pub record AllDrive (s : State) (cores : Db → Core) : Type 0 where
  pub drives : (db : Db) → Drives db 0 (cores db) (cache_of s db)
  pub sources_are : (db : Db) → (cores db).sources ≡ s.files
  pub none_fetched : (db : Db) → ((cores db).callers 0).fetched ≡ None

-- the caller may get this reply to this request, and it is an answer to it for a caller that had seen the whole history
-- before it; an entry that the reply comes from is live at that moment
pub record IsCoreReply (old new : Core) (request : Request) (reply : List ℕ) : Type 0 where
  pub requested : (new.callers 0).request ≡ Some request
  pub replies : Replies new 0 reply
  pub live : (e : Entry) → (new.callers 0).taken ≡ Some e → IsLive new.history e
  pub answered : Answered old.history new.history request reply

-- what is written for a lookup is a reply after its length, given by the core of the request's database; for any other
-- input an empty reply is written
abbrev pub IsFramedReply : (Db → Core) → (Db → Core) → List ℕ → Asked → Type 0
IsFramedReply old new writes (Look request) = (reply : List ℕ) × (writes ≡ framed reply) × IsCoreReply (old (database_of request.kind)) (new (database_of request.kind)) request reply
IsFramedReply old new writes Shutdown = writes ≡ framed []
IsFramedReply old new writes Stat = writes ≡ framed []
IsFramedReply old new writes (Invalidate name) = writes ≡ framed []
IsFramedReply old new writes Descriptor = writes ≡ framed []
IsFramedReply old new writes Netgroup = writes ≡ framed []
IsFramedReply old new writes (Short have) = writes ≡ framed []
IsFramedReply old new writes (BadVersion version) = writes ≡ framed []
IsFramedReply old new writes (BadType type) = writes ≡ framed []
IsFramedReply old new writes (BadLength length) = writes ≡ framed []

abbrev pub RepliesTo : (Db → Core) → (Db → Core) → List ℕ → Frame → Type 0
RepliesTo old new writes (frame.Request input) = IsFramedReply old new writes (request_of input)
RepliesTo old new writes (frame.SetFile file held) = writes ≡ []
RepliesTo old new writes (frame.Time moment) = writes ≡ []
RepliesTo old new writes (frame.Invalidate db) = writes ≡ []
RepliesTo old new writes frame.End = writes ≡ []

-- ---- the records of a frame

-- one thing for each database
abbrev pub each_of : {A : Type 0} → A → A → A → A → Db → A
each_of passwd group hosts services Passwd = passwd
each_of passwd group hosts services Group = group
each_of passwd group hosts services Hosts = hosts
each_of passwd group hosts services Services = services

-- another thing for this database
abbrev pub with_at : {A : Type 0} → (Db → A) → Db → A → Db → A
with_at all Passwd x = each_of x (all Group) (all Hosts) (all Services)
with_at all Group x = each_of (all Passwd) x (all Hosts) (all Services)
with_at all Hosts x = each_of (all Passwd) (all Group) x (all Services)
with_at all Services x = each_of (all Passwd) (all Group) (all Hosts) x

abbrev pub none_add : Db → List Record
none_add db = []

-- one database adds records, and the others none
abbrev pub adds_alone : Db → List Record → Db → List Record
adds_alone db adds = with_at none_add db adds

-- the records of an event, also of one that stops
abbrev pub adds_of : Result Passed Stopped → List Record
adds_of (Ok passed) = passed.adds
adds_of (Err stop) = stop.adds

abbrev pub look_adds_of : Result Turn Stopped → List Record
look_adds_of (Ok turn) = turn.adds
look_adds_of (Err stop) = stop.adds

abbrev pub look_adds : Conf → State → Db → Request → Db → List Record
look_adds settings s db request = adds_alone db (look_adds_of (lookup (settings_of settings db) s.moment (part_of db s.files) request (cache_of s db)))

abbrev pub asked_adds : Conf → State → Asked → Db → List Record
asked_adds settings s (Look request) = look_adds settings s (database_of request.kind) request
asked_adds settings s Shutdown = none_add
asked_adds settings s Stat = none_add
asked_adds settings s (Invalidate name) = none_add
asked_adds settings s Descriptor = none_add
asked_adds settings s Netgroup = none_add
asked_adds settings s (Short have) = none_add
asked_adds settings s (BadVersion version) = none_add
asked_adds settings s (BadType type) = none_add
asked_adds settings s (BadLength length) = none_add

-- after a tick that stops no other database is ticked
abbrev pub unless_stopped : Result Passed Stopped → List Record → List Record
unless_stopped (Ok passed) adds = adds
unless_stopped (Err stop) adds = []

abbrev pub tick_adds : Conf → State → Db → List Record
tick_adds settings s =
    let passwd = tick_in settings Passwd s in
    let group = tick_in settings Group s in
    let hosts = tick_in settings Hosts s in
    let services = tick_in settings Services s in
    each_of (adds_of passwd) (unless_stopped passwd (adds_of group)) (unless_stopped passwd (unless_stopped group (adds_of hosts))) (unless_stopped passwd (unless_stopped group (unless_stopped hosts (adds_of services))))

-- the moment of a state once a frame said this one
abbrev pub reached_moment : State → ℕ → ℕ
reached_moment s moment = max s.moment (min moment last_moment)

-- what a frame adds to the history of each database
abbrev pub frame_adds : Conf → State → Frame → Db → List Record
frame_adds settings s (frame.Request input) = asked_adds settings s (request_of input)
frame_adds settings s (frame.SetFile file held) = none_add
frame_adds settings s (frame.Time moment) = tick_adds settings (record s { moment = reached_moment s moment })
frame_adds settings s (frame.Invalidate db) = adds_alone db (adds_of (invalidated (cache_of s db)))
frame_adds settings s frame.End = none_add

-- the cores move on over the files of this state, gain exactly these records, and tell its caches
pub record AllMove (old : Db → Core) (adds : Db → List Record) (s : State) (new : Db → Core) : Type 0 where
  pub drive : AllDrive s new
  pub gained : (db : Db) → (new db).history ≡ adds db ++ (old db).history
  pub over : (db : Db) → MovesOver db 0 s.files (old db) (new db)

-- ---- stops

-- a database leaves what it did up to its stop, and where it does not stop, the next part goes on after it
abbrev pub left_on : State → Db → Result Passed Stopped → (State → State) → State
left_on s db (Ok passed) next = next (with_cache s db passed.cache)
left_on s db (Err stop) next = with_cache s db stop.cache

abbrev pub left_looked : State → Db → Result Turn Stopped → State
left_looked s db (Ok turn) = with_cache s db turn.cache
left_looked s db (Err stop) = with_cache s db stop.cache

-- a tick that stops keeps a version, too
abbrev pub kept_in : Conf → Db → State → ℕ
kept_in settings db s = ticked_after (settings_of settings db) (database_in s.ticked db) (polled (part_of db s.files) (cache_of s db))

abbrev pub left_tick : Conf → Db → State → Result Passed Stopped → (State → State) → State
left_tick settings db s (Ok passed) next = next (with_ticked settings db (with_cache s db passed.cache))
left_tick settings db s (Err stop) next = record s { caches = with_database s.caches db stop.cache; ticked = with_database s.ticked db (kept_in settings db s) }

-- what the ticks of all databases leave, or those up to one that stops
abbrev pub left_ticked : Conf → Db → State → (State → State) → State
left_ticked settings db s next = left_tick settings db s (tick_in settings db s) next

abbrev pub left_ticks : Conf → State → State
left_ticks settings s = left_ticked settings Passwd s (λ s1. left_ticked settings Group s1 (λ s2. left_ticked settings Hosts s2 (λ s3. left_ticked settings Services s3 (λ s4. s4))))

abbrev pub left_look : Conf → State → Db → Request → State
left_look settings s db request = left_looked s db (lookup (settings_of settings db) s.moment (part_of db s.files) request (cache_of s db))

abbrev pub left_asked : Conf → State → Asked → State
left_asked settings s (Look request) = left_look settings s (database_of request.kind) request
left_asked settings s Shutdown = s
left_asked settings s Stat = s
left_asked settings s (Invalidate name) = s
left_asked settings s Descriptor = s
left_asked settings s Netgroup = s
left_asked settings s (Short have) = s
left_asked settings s (BadVersion version) = s
left_asked settings s (BadType type) = s
left_asked settings s (BadLength length) = s

-- what a frame leaves where a count of a database stands at its end
abbrev pub left_by : Conf → State → Frame → State
left_by settings s (frame.Request input) = left_asked settings s (request_of input)
left_by settings s (frame.SetFile file held) = s
left_by settings s (frame.Time moment) = left_ticks settings (record s { moment = reached_moment s moment })
left_by settings s (frame.Invalidate db) = left_on s db (invalidated (cache_of s db)) (λ t. t)
left_by settings s frame.End = s

-- the state at a stop: for a count what the frame left, and for any other cause what stood before the frame
abbrev pub stopped_in : State → State → Finish → State
stopped_in s left (Done place) = s
stopped_in s left (Bad place) = s
stopped_in s left (Long length) = s
stopped_in s left (Spent count) = left

-- ---- whole replays

-- the files after a frame
abbrev pub files_after : Frame → Content → Content
files_after (frame.Request input) files = files
files_after (frame.SetFile file held) files = with_file files file held
files_after (frame.Time moment) files = files
files_after (frame.Invalidate db) files = files
files_after frame.End files = files

-- and the moment
abbrev pub moment_after : Frame → State → ℕ
moment_after (frame.Request input) s = s.moment
moment_after (frame.SetFile file held) s = s.moment
moment_after (frame.Time moment) s = reached_moment s moment
moment_after (frame.Invalidate db) s = s.moment
moment_after frame.End s = s.moment

-- a frame moves the cores on, over the files as they are after it, and they gain exactly its records
pub record IsPlayed (settings : Conf) (s : State) (old : Db → Core) (frame : Frame) (went : Went) (new : Db → Core) : Type 0 where
  pub moves : AllMove old (frame_adds settings s frame) went.state new
  pub replied : RepliesTo old new went.writes frame
  pub files_are : went.state.files ≡ files_after frame s.files
  pub moment_is : went.state.moment ≡ moment_after frame s

-- a frame that ends the replay: there the cores moved on to the state at the stop, and gained exactly the records up to it
pub record IsStopped (settings : Conf) (s : State) (old : Db → Core) (frame : Frame) (finish : Finish) (new : Db → Core) : Type 0 where
  pub moves : AllMove old (frame_adds settings s frame) (stopped_in s (left_by settings s frame) finish) new

-- frames write these pieces, one piece for each frame in turn, up to one that ends the replay, and the replay ends so
abbrev pub PlayedThen : (State → (Db → Core) → List (List ℕ) → Type 0) → Conf → State → (Db → Core) → Frame → List (List ℕ) → Finish → Result Went Finish → Type 0
PlayedThen others settings s old frame pieces finish (Ok went) = (new : Db → Core) × (later : List (List ℕ)) × IsPlayed settings s old frame went new × (pieces ≡ went.writes ∷ later) × others went.state new later
PlayedThen others settings s old frame pieces finish (Err stop) = (new : Db → Core) × IsStopped settings s old frame stop new × (pieces ≡ []) × (finish ≡ stop)

-- where no frame ends the replay, it ends like this one, as the bytes after the frames say
abbrev pub EachReplied : Conf → List Frame → Finish → State → (Db → Core) → List (List ℕ) → Finish → Type 0
EachReplied settings [] last s cores pieces finish = AllDrive s cores × (pieces ≡ []) × (finish ≡ last)
EachReplied settings (frame ∷ frames) last s cores pieces finish =
    AllDrive s cores × PlayedThen (λ t new later. EachReplied settings frames last t new later finish) settings s cores frame pieces finish (turn_of settings s frame)

-- what a replay of frames wrote, from a state and these cores on, is what its frames write in turn
pub record WritesInTurn (settings : Conf) (frames : List Frame) (last : Finish) (s : State) (cores : Db → Core) (replayed : Replayed) : Type 0 where
  pub pieces : List (List ℕ)
  pub each_replied : EachReplied settings frames last s cores pieces replayed.finish
  pub output_is : replayed.output ≡ concat pieces
