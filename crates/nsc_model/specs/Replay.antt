-- A replay: frames through the machines of the four databases, from every file absent at moment 0 to the first E.
use Rattle.std.specs.Prelude.{ℕ, ◌-◌, min, max, List, [], ◌∷◌, ◌++◌, length, Option, Result, Ok, Err}
use Rattle.nsc_model.specs.declared.kind.Db.{Db}
use Rattle.nsc_model.specs.declared.kind.Db.TheVariants as db
use Rattle.nsc_model.specs.declared.kind.FileId.{FileId}
use Rattle.nsc_model.specs.declared.answer.Request.{Request}
use Rattle.nsc_model.specs.Kinds.{database_of}
use Rattle.nsc_model.specs.Content.{Content}
use Rattle.nsc_model.specs.Files.{no_files, with_file, part_of}
use Rattle.nsc_model.specs.declared.conf.Conf.{Conf}
use Rattle.nsc_model.specs.Settings.{settings_of}
use Rattle.nsc_model.specs.Wire.{Asked, Look, Shutdown, Stat, Invalidate, Descriptor, Netgroup, Short, BadVersion, BadType, BadLength, request_of, field}
use Rattle.nsc_model.specs.Machine.{Cache, new_cache, Passed, Stopped, Turn, last_count, ticked_by, lookup, tick, invalidated}
use Rattle.nsc_model.specs.declared.databases.Databases.{Databases}
use Rattle.nsc_model.specs.Databases.{database_in, with_database}
use Rattle.nsc_model.specs.Frames as frame
use Rattle.nsc_model.specs.Frames.{Frame, Finish, Spent, cut_at}

-- the files as they are, the moment in seconds, and for each database its cache and the version that its last tick found
pub record State : Type 0 where
  pub files : Content
  pub moment : ℕ
  pub caches : Databases Cache
  pub ticked : Databases ℕ

-- a new cache over the part of a database, where every file is absent
abbrev pub empty_cache : Db → Cache
empty_cache db = new_cache (part_of db no_files)

abbrev pub first_state : State
first_state = record {
  files = no_files;
  moment = 0;
  caches = record { passwd = empty_cache db.Passwd; group = empty_cache db.Group; hosts = empty_cache db.Hosts; services = empty_cache db.Services };
  ticked = record { passwd = 0; group = 0; hosts = 0; services = 0 };
}

abbrev pub cache_of : State → Db → Cache
cache_of s db = database_in s.caches db

abbrev pub with_cache : State → Db → Cache → State
with_cache s db cache = record s { caches = with_database s.caches db cache }

-- the outcome of a frame: the state after it, and what is written for it
pub record Went : Type 0 where
  pub state : State
  pub writes : List ℕ

-- a reply is written after its length
abbrev pub framed : List ℕ → List ℕ
framed reply = field (length reply) ++ reply

abbrev pub looked_at : State → Db → Result Turn Stopped → Result Went Finish
looked_at s db (Ok turn) = Ok (record { state = with_cache s db turn.cache; writes = framed turn.reply })
looked_at s db (Err stop) = Err (Spent stop.count)

-- a lookup, in the database of its kind
abbrev pub look_in : Db → Conf → State → Request → Result Went Finish
look_in db settings s request = looked_at s db (lookup (settings_of settings db) s.moment (part_of db s.files) request (cache_of s db))

abbrev pub look_frame : Conf → State → Request → Result Went Finish
look_frame settings s request = look_in (database_of request.kind) settings s request

-- an input that asks for no lookup gets no reply: an empty one is written
abbrev pub unanswered : State → Result Went Finish
unanswered s = Ok (record { state = s; writes = framed [] })

-- the input of a connection
abbrev pub request_frame : Conf → State → Asked → Result Went Finish
request_frame settings s (Look request) = look_frame settings s request
request_frame settings s Shutdown = unanswered s
request_frame settings s Stat = unanswered s
request_frame settings s (Invalidate name) = unanswered s
request_frame settings s Descriptor = unanswered s
request_frame settings s Netgroup = unanswered s
request_frame settings s (Short have) = unanswered s
request_frame settings s (BadVersion version) = unanswered s
request_frame settings s (BadType type) = unanswered s
request_frame settings s (BadLength length) = unanswered s

-- a frame for which nothing is written
abbrev pub silent : State → Result Went Finish
silent s = Ok (record { state = s; writes = [] })

-- a file becomes this
abbrev pub set_file_frame : State → FileId → Option (List ℕ) → Result Went Finish
set_file_frame s file held = silent (record s { files = with_file s.files file held })

-- one database did this, and the next part goes on after it
abbrev pub then_on : State → Db → Result Passed Stopped → (State → Result Went Finish) → Result Went Finish
then_on s db (Ok passed) next = next (with_cache s db passed.cache)
then_on s db (Err stop) next = Err (Spent stop.count)

-- the tick of a database at the moment as it is
abbrev pub tick_in : Conf → Db → State → Result Passed Stopped
tick_in settings db s = tick (settings_of settings db) settings.reloads s.moment (part_of db s.files) (database_in s.ticked db) (cache_of s db)

-- the version is kept that a tick found
abbrev pub with_ticked : Conf → Db → State → State
with_ticked settings db s = record s { ticked = with_database s.ticked db (ticked_by (settings_of settings db) (database_in s.ticked db) (cache_of s db)) }

-- a database is ticked, and the next part goes on after it
abbrev pub ticked_in : Conf → Db → State → (State → Result Went Finish) → Result Went Finish
ticked_in settings db s next = then_on s db (tick_in settings db s) (λ t. next (with_ticked settings db t))

-- all databases are ticked, one after the other
abbrev pub ticks : Conf → State → Result Went Finish
ticks settings s = ticked_in settings db.Passwd s (λ s1. ticked_in settings db.Group s1 (λ s2. ticked_in settings db.Hosts s2 (λ s3. ticked_in settings db.Services s3 silent)))

-- the greatest moment
abbrev pub last_moment : ℕ
last_moment = last_count - 1

-- the moment becomes this one, or the greatest moment if that is earlier, unless it is later already; and every database is
-- ticked, also where the moment stays
abbrev pub time_frame : Conf → State → ℕ → Result Went Finish
time_frame settings s moment = ticks settings (record s { moment = max s.moment (min moment last_moment) })

-- a database is invalidated
abbrev pub invalidate_frame : State → Db → Result Went Finish
invalidate_frame s db = then_on s db (invalidated (cache_of s db)) silent

-- one frame through the machines. The first E is cut off before.
abbrev pub turn_of : Conf → State → Frame → Result Went Finish
turn_of settings s (frame.Request input) = request_frame settings s (request_of input)
turn_of settings s (frame.SetFile file held) = set_file_frame s file held
turn_of settings s (frame.Time moment) = time_frame settings s moment
turn_of settings s (frame.Invalidate db) = invalidate_frame s db
turn_of settings s frame.End = silent s

-- what a replay writes, and how it ends
pub record Replayed : Type 0 where
  pub output : List ℕ
  pub finish : Finish

abbrev pub after_output : List ℕ → Replayed → Replayed
after_output front replayed = record { output = front ++ replayed.output; finish = replayed.finish }

abbrev pub play_on : (State → Replayed) → Result Went Finish → Replayed
play_on next (Ok went) = after_output went.writes (next went.state)
play_on next (Err finish) = record { output = []; finish = finish }

-- frames through the machines, one after another, up to one that ends the replay
unfoldable pub play : Conf → List Frame → Finish → State → Replayed
play settings [] finish s = record { output = []; finish = finish }
play settings (frame ∷ frames) finish s = play_on (play settings frames finish) (turn_of settings s frame)

-- the rest of a replay: the bytes from this place on, in this state
abbrev pub replay_from : Conf → State → ℕ → List ℕ → Replayed
replay_from settings s place bytes = let cut = cut_at place bytes in play settings cut.frames cut.finish s

-- the replay of bytes, with these settings
abbrev pub replay : Conf → List ℕ → Replayed
replay settings bytes = replay_from settings first_state 0 bytes
