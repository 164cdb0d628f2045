-- The law of replays: each history gains exactly the records of the frames, each reply is an answer, and the output is the replies in order.
use Rattle.std.proofs.Common.{◌≡◌, ℕ, List, [], ◌∷◌, ◌++◌, refl, sym, ap, subst, ◌∙◌, inl, inr}
use Rattle.std.specs.Prelude.{Result, Ok, Err}
use Rattle.std.specs.List.{concat}
use Rattle.std.proofs.lemmas.List.Elements.{All-nil}
use Rattle.nsc_model.specs.declared.kind.Db.{Db}
use Rattle.nsc_model.specs.declared.kind.Db.TheVariants.{Passwd, Group, Hosts, Services}
use Rattle.nsc_model.specs.declared.kind.Kind.{Kind}
use Rattle.nsc_model.specs.declared.answer.Request.{Request}
use Rattle.nsc_model.specs.declared.record.Record.{Record}
use Rattle.nsc_model.specs.Kinds.{database_of}
use Rattle.nsc_model.specs.Content.{Content}
use Rattle.nsc_model.specs.Files.{no_files, with_file, part_of}
use Rattle.nsc_model.specs.declared.conf.Conf.{Conf}
use Rattle.nsc_model.specs.Settings.{settings_of}
use Rattle.nsc_model.specs.declared.databases.Databases.{Databases}
use Rattle.nsc_model.specs.Databases.{database_in, with_database}
use Rattle.nsc_model.specs.Wire.{Asked, Look, Shutdown, Stat, Invalidate, Descriptor, Netgroup, Short, BadVersion, BadType, BadLength, request_of}
use Rattle.nsc_model.specs.History.{invalidations}
use Rattle.nsc_model.specs.Machine.{Cache, Passed, Stopped, Turn, lookup, tick, invalidated}
use Rattle.nsc_model.specs.Frames as frame
use Rattle.nsc_model.specs.Frames.{Frame, Finish, Spent, cut_at}
use Rattle.nsc_model.specs.Replay.{State, first_state, cache_of, with_cache, Went, framed, looked_at, look_frame, unanswered, request_frame, silent, then_on, tick_in, with_ticked, ticked_in, ticks, turn_of, Replayed, play_on, play, replay}
use Rattle.nsc_laws.specs.Core.{Caller, Core, opening}
use Rattle.nsc_laws.specs.Calls.{IsBy, IsMoved, IsTurned, PassesBy, TurnsBy}
use Rattle.nsc_laws.specs.Replies.{AllDrive, IsCoreReply, IsFramedReply, each_of, with_at, none_add, adds_alone, adds_of, look_adds_of, asked_adds, unless_stopped, tick_adds, frame_adds, reached_moment, AllMove, left_on, left_looked, left_tick, left_ticked, left_ticks, left_look, left_asked, left_by, stopped_in, IsPlayed, IsStopped, PlayedThen, EachReplied, WritesInTurn}
use Rattle.nsc_laws.proofs.CoreLaw.{noting}
use Rattle.nsc_laws.proofs.MachineLaw.{lookup_turns, tick_passes, invalidation_passes}
use Rattle.nsc_laws.proofs.MachineLawSteps.{at_own}
use Rattle.nsc_laws.proofs.MachineLawCores.{settled, moment_drive, over_files, set_file_drive, ticked_moves, one_moves, all_stay, all_begin, with_at_own}

-- ---- events for which nothing is written

-- a count stood at its end
record IsCount (finish : Finish) : Type 0 where
  count : ℕ
  is : finish ≡ Spent count

-- the cores gained exactly these records; a stop leaves this state, and the files and the moment stay
abbrev Silently : (Db → Core) → (Db → List Record) → State → Content → ℕ → Result Went Finish → Type 0
Silently old adds left files moment (Ok went) = (new : Db → Core) × AllMove old adds went.state new × (went.writes ≡ []) × (went.state.files ≡ files) × (went.state.moment ≡ moment)
Silently old adds left files moment (Err finish) = (new : Db → Core) × AllMove old adds left new × IsCount finish

-- one database, and nothing after it
last_part : (old : Db → Core) (adds : Db → List Record) (s : State) (cores : Db → Core) (db : Db) (r : Result Passed Stopped) → AllMove old adds s cores → adds db ≡ [] → PassesBy db 0 (cores db) r
    → Silently old (with_at adds db (adds_of r)) (left_on s db r (λ t. t)) s.files s.moment (then_on s db r silent)
last_part old adds s cores db (Ok passed) g none w = (with_at cores db (settled w.0), one_moves old adds s cores db w.0 passed.adds passed.cache g none w.1, refl, refl, refl)
last_part old adds s cores db (Err stop) g none w = (with_at cores db (settled w.0), one_moves old adds s cores db w.0 stop.adds stop.cache g none w.1, record { count = stop.count; is = refl })

-- ---- ticks

tick_passes_in : (settings : Conf) (s : State) (cores : Db → Core) (db : Db) → AllDrive s cores → PassesBy db 0 (cores db) (tick_in settings db s)
tick_passes_in settings s cores db d =
    subst (λ (f : Content). PassesBy db 0 (cores db) (tick (settings_of settings db) settings.reloads s.moment (part_of db f) (database_in s.ticked db) (cache_of s db))) (d.sources_are db)
    (tick_passes db 0 (settings_of settings db) settings.reloads s.moment (database_in s.ticked db) (cores db) (cache_of s db) (d.drives db))

-- what the ticks from a database on come to, once it was ticked itself
abbrev left_after_hosts : Conf → State → State
left_after_hosts settings s = left_ticked settings Services s (λ s4. s4)

abbrev left_after_group : Conf → State → State
left_after_group settings s = left_ticked settings Hosts s (left_after_hosts settings)

abbrev left_after_passwd : Conf → State → State
left_after_passwd settings s = left_ticked settings Group s (left_after_group settings)

abbrev after_hosts : Conf → State → Result Went Finish
after_hosts settings s = ticked_in settings Services (with_ticked settings Hosts s) silent

abbrev after_group : Conf → State → Result Went Finish
after_group settings s = ticked_in settings Hosts (with_ticked settings Group s) (λ t. ticked_in settings Services t silent)

abbrev after_passwd : Conf → State → Result Went Finish
after_passwd settings s = ticked_in settings Group (with_ticked settings Passwd s) (λ t. ticked_in settings Hosts t (λ u. ticked_in settings Services u silent))

-- one database was ticked, which gained nothing so far
moves_ticked : (ticked : Databases ℕ) (old : Db → Core) (adds : Db → List Record) (s : State) (cores : Db → Core) (db : Db) (core : Core) (more : List Record) (after : Cache) → AllMove old adds s cores → adds db ≡ [] → IsMoved db 0 (cores db) more after core
    → AllMove old (with_at adds db more) (record s { caches = with_database s.caches db after; ticked = ticked }) (with_at cores db (settled core))
moves_ticked ticked old adds s cores db core more after g none m = ticked_moves old (with_at adds db more) ticked (with_cache s db after) (with_at cores db (settled core)) (one_moves old adds s cores db core more after g none m)

services_ticked : (settings : Conf) (old : Db → Core) (a b c : List Record) (s : State) (cores : Db → Core) (r : Result Passed Stopped) → AllMove old (each_of a b c []) s cores → PassesBy Services 0 (cores Services) r
    → Silently old (each_of a b c (adds_of r)) (left_tick settings Services s r (λ s4. s4)) s.files s.moment (then_on s Services r (λ t. silent (with_ticked settings Services t)))
services_ticked settings old a b c s cores (Ok passed) g w = (with_at cores Services (settled w.0), moves_ticked _ old (each_of a b c []) s cores Services w.0 passed.adds passed.cache g refl w.1, refl, refl, refl)
services_ticked settings old a b c s cores (Err stop) g w = (with_at cores Services (settled w.0), moves_ticked _ old (each_of a b c []) s cores Services w.0 stop.adds stop.cache g refl w.1, record { count = stop.count; is = refl })

hosts_ticked : (settings : Conf) (old : Db → Core) (a b : List Record) (s : State) (cores : Db → Core) (r : Result Passed Stopped) → AllMove old (each_of a b [] []) s cores → PassesBy Hosts 0 (cores Hosts) r
    → Silently old (each_of a b (adds_of r) (unless_stopped r (adds_of (tick_in settings Services s)))) (left_tick settings Hosts s r (left_after_hosts settings)) s.files s.moment (then_on s Hosts r (after_hosts settings))
hosts_ticked settings old a b s cores (Ok passed) g w =
    let t = with_ticked settings Hosts (with_cache s Hosts passed.cache) in
    let new = with_at cores Hosts (settled w.0) in
    let moved = moves_ticked t.ticked old (each_of a b [] []) s cores Hosts w.0 passed.adds passed.cache g refl w.1 in
    services_ticked settings old a b passed.adds t new (tick_in settings Services t) moved (tick_passes_in settings t new Services moved.drive)
hosts_ticked settings old a b s cores (Err stop) g w = (with_at cores Hosts (settled w.0), moves_ticked _ old (each_of a b [] []) s cores Hosts w.0 stop.adds stop.cache g refl w.1, record { count = stop.count; is = refl })

group_ticked : (settings : Conf) (old : Db → Core) (a : List Record) (s : State) (cores : Db → Core) (r : Result Passed Stopped) → AllMove old (each_of a [] [] []) s cores → PassesBy Group 0 (cores Group) r
    → Silently old (each_of a (adds_of r) (unless_stopped r (adds_of (tick_in settings Hosts s))) (unless_stopped r (unless_stopped (tick_in settings Hosts s) (adds_of (tick_in settings Services s))))) (left_tick settings Group s r (left_after_group settings)) s.files s.moment (then_on s Group r (after_group settings))
group_ticked settings old a s cores (Ok passed) g w =
    let t = with_ticked settings Group (with_cache s Group passed.cache) in
    let new = with_at cores Group (settled w.0) in
    let moved = moves_ticked t.ticked old (each_of a [] [] []) s cores Group w.0 passed.adds passed.cache g refl w.1 in
    hosts_ticked settings old a passed.adds t new (tick_in settings Hosts t) moved (tick_passes_in settings t new Hosts moved.drive)
group_ticked settings old a s cores (Err stop) g w = (with_at cores Group (settled w.0), moves_ticked _ old (each_of a [] [] []) s cores Group w.0 stop.adds stop.cache g refl w.1, record { count = stop.count; is = refl })

passwd_ticked : (settings : Conf) (old : Db → Core) (s : State) (cores : Db → Core) (r : Result Passed Stopped) → AllMove old none_add s cores → PassesBy Passwd 0 (cores Passwd) r
    → Silently old (each_of (adds_of r) (unless_stopped r (adds_of (tick_in settings Group s))) (unless_stopped r (unless_stopped (tick_in settings Group s) (adds_of (tick_in settings Hosts s))))
    (unless_stopped r (unless_stopped (tick_in settings Group s) (unless_stopped (tick_in settings Hosts s) (adds_of (tick_in settings Services s)))))) (left_tick settings Passwd s r (left_after_passwd settings)) s.files s.moment (then_on s Passwd r (after_passwd settings))
passwd_ticked settings old s cores (Ok passed) g w =
    let t = with_ticked settings Passwd (with_cache s Passwd passed.cache) in
    let new = with_at cores Passwd (settled w.0) in
    let moved = moves_ticked t.ticked old none_add s cores Passwd w.0 passed.adds passed.cache g refl w.1 in
    group_ticked settings old passed.adds t new (tick_in settings Group t) moved (tick_passes_in settings t new Group moved.drive)
passwd_ticked settings old s cores (Err stop) g w = (with_at cores Passwd (settled w.0), moves_ticked _ old none_add s cores Passwd w.0 stop.adds stop.cache g refl w.1, record { count = stop.count; is = refl })

all_ticked : (settings : Conf) (s : State) (cores : Db → Core) → AllDrive s cores → Silently cores (tick_adds settings s) (left_ticks settings s) s.files s.moment (ticks settings s)
all_ticked settings s cores d = passwd_ticked settings cores s cores (tick_in settings Passwd s) (all_stay s cores d) (tick_passes_in settings s cores Passwd d)

-- ---- the input of a connection

-- what a connection asked
abbrev AskedTo : (Db → Core) → (Db → List Record) → State → State → Asked → Result Went Finish → Type 0
AskedTo old adds s left asked (Ok went) = (new : Db → Core) × AllMove old adds went.state new × IsFramedReply old new went.writes asked × (went.state.files ≡ s.files) × (went.state.moment ≡ s.moment)
AskedTo old adds s left asked (Err finish) = (new : Db → Core) × AllMove old adds left new × IsCount finish

abbrev request : Kind → List ℕ → Request
request kind key = record { kind = kind; key = key }

-- a reply is given where its lookup is made, and still where the caller noted the invalidations anew
given_on : (db : Db) (old new : Core) (request : Request) (adds : List Record) (reply : List ℕ) (after : Cache) → IsTurned db 0 old request adds reply after new → IsCoreReply old (settled new) request reply
given_on db old new request adds reply after t =
    let is = at_own new.callers 0 (noting (new.callers 0) (invalidations new.history)) in
    record {
      requested = ap (λ (c : Caller). c.request) is ∙ t.requested;
      replies = record {
        request = t.replies.request;
        request_is = ap (λ (c : Caller). c.request) is ∙ t.replies.request_is;
        source = elim t.replies.source [
          | inl x ↦ inl (x.0, ap (λ (c : Caller). c.taken) is ∙ x.1, x.2)
          | inr x ↦ inr (x.0, x.1, ap (λ (c : Caller). c.asked) is ∙ x.2, x.3, x.4)
        ];
      };
      live = λ e taken. t.live e (sym (ap (λ (c : Caller). c.taken) is) ∙ taken);
      answered = t.answered;
    }

given_in : (kind : Kind) (key : List ℕ) (cores : Db → Core) (new : Core) (adds : List Record) (reply : List ℕ) (after : Cache) → IsTurned (database_of kind) 0 (cores (database_of kind)) (request kind key) adds reply after new
    → IsCoreReply (cores (database_of kind)) (with_at cores (database_of kind) (settled new) (database_of kind)) (request kind key) reply
given_in kind key cores new adds reply after t =
    let db = database_of kind in
    subst (λ (core : Core). IsCoreReply (cores db) core (request kind key) reply) (sym (with_at_own cores db (settled new))) (given_on db (cores db) new (request kind key) adds reply after t)

kind_asked : (s : State) (cores : Db → Core) (kind : Kind) (key : List ℕ) (r : Result Turn Stopped) → AllDrive s cores → TurnsBy (database_of kind) 0 (cores (database_of kind)) (request kind key) r
    → AskedTo cores (adds_alone (database_of kind) (look_adds_of r)) s (left_looked s (database_of kind) r) (Look (request kind key)) (looked_at s (database_of kind) r)
kind_asked s cores kind key (Ok turn) d w =
    let db = database_of kind in (
      with_at cores db (settled w.0),
      one_moves cores none_add s cores db w.0 turn.adds turn.cache (all_stay s cores d) refl w.1.moved,
      (turn.reply, refl, given_in kind key cores w.0 turn.adds turn.reply turn.cache w.1),
      refl,
      refl,
    )
kind_asked s cores kind key (Err stop) d w = (with_at cores (database_of kind) (settled w.0), one_moves cores none_add s cores (database_of kind) w.0 stop.adds stop.cache (all_stay s cores d) refl w.1, record { count = stop.count; is = refl })

look_asked : (settings : Conf) (s : State) (cores : Db → Core) (kind : Kind) (key : List ℕ) → AllDrive s cores
    → AskedTo cores (asked_adds settings s (Look (request kind key))) s (left_look settings s (database_of kind) (request kind key)) (Look (request kind key)) (look_frame settings s (request kind key))
look_asked settings s cores kind key d =
    let db = database_of kind in
    kind_asked s cores kind key (lookup (settings_of settings db) s.moment (part_of db s.files) (request kind key) (cache_of s db)) d
    (subst (λ (f : Content). TurnsBy db 0 (cores db) (request kind key) (lookup (settings_of settings db) s.moment (part_of db f) (request kind key) (cache_of s db))) (d.sources_are db)
    (lookup_turns db 0 (settings_of settings db) s.moment (request kind key) (cores db) (cache_of s db) (d.drives db)))

no_look : (s : State) (cores : Db → Core) (asked : Asked) → IsFramedReply cores cores (framed []) asked → AllDrive s cores → AskedTo cores none_add s s asked (unanswered s)
no_look s cores asked is d = (cores, all_stay s cores d, is, refl, refl)

any_asked : (settings : Conf) (s : State) (cores : Db → Core) (asked : Asked) → AllDrive s cores → AskedTo cores (asked_adds settings s asked) s (left_asked settings s asked) asked (request_frame settings s asked)
any_asked settings s cores (Look r) d = look_asked settings s cores r.kind r.key d
any_asked settings s cores Shutdown d = no_look s cores Shutdown refl d
any_asked settings s cores Stat d = no_look s cores Stat refl d
any_asked settings s cores (Invalidate name) d = no_look s cores (Invalidate name) refl d
any_asked settings s cores Descriptor d = no_look s cores Descriptor refl d
any_asked settings s cores Netgroup d = no_look s cores Netgroup refl d
any_asked settings s cores (Short have) d = no_look s cores (Short have) refl d
any_asked settings s cores (BadVersion version) d = no_look s cores (BadVersion version) refl d
any_asked settings s cores (BadType type) d = no_look s cores (BadType type) refl d
any_asked settings s cores (BadLength length) d = no_look s cores (BadLength length) refl d

-- ---- frames

abbrev Comes : Conf → State → (Db → Core) → Frame → Result Went Finish → Type 0
Comes settings s old frame (Ok went) = (new : Db → Core) × IsPlayed settings s old frame went new
Comes settings s old frame (Err finish) = (new : Db → Core) × IsStopped settings s old frame finish new

-- a stop at a count leaves what the frame left
count_left : (settings : Conf) (s : State) (old : Db → Core) (frame : Frame) (finish : Finish) (new : Db → Core) → IsCount finish → AllMove old (frame_adds settings s frame) (left_by settings s frame) new → IsStopped settings s old frame finish new
count_left settings s old frame finish new count g =
    record { moves = subst (λ (f : Finish). AllMove old (frame_adds settings s frame) (stopped_in s (left_by settings s frame) f) new) (sym count.is) g }

request_comes : (settings : Conf) (s : State) (old : Db → Core) (input : List ℕ) (r : Result Went Finish) → AskedTo old (asked_adds settings s (request_of input)) s (left_asked settings s (request_of input)) (request_of input) r → Comes settings s old (frame.Request input) r
request_comes settings s old input (Ok went) w = (w.0, record { moves = w.1; replied = w.2; files_are = w.3; moment_is = w.4 })
request_comes settings s old input (Err finish) w = (w.0, count_left settings s old (frame.Request input) finish w.0 w.2 w.1)

time_comes : (settings : Conf) (s : State) (old : Db → Core) (moment : ℕ) (r : Result Went Finish) → Silently old (frame_adds settings s (frame.Time moment)) (left_by settings s (frame.Time moment)) s.files (reached_moment s moment) r → Comes settings s old (frame.Time moment) r
time_comes settings s old moment (Ok went) w = (w.0, record { moves = w.1; replied = w.2; files_are = w.3; moment_is = w.4 })
time_comes settings s old moment (Err finish) w = (w.0, count_left settings s old (frame.Time moment) finish w.0 w.2 w.1)

invalidate_comes : (settings : Conf) (s : State) (old : Db → Core) (db : Db) (r : Result Went Finish) → Silently old (frame_adds settings s (frame.Invalidate db)) (left_by settings s (frame.Invalidate db)) s.files s.moment r → Comes settings s old (frame.Invalidate db) r
invalidate_comes settings s old db (Ok went) w = (w.0, record { moves = w.1; replied = w.2; files_are = w.3; moment_is = w.4 })
invalidate_comes settings s old db (Err finish) w = (w.0, count_left settings s old (frame.Invalidate db) finish w.0 w.2 w.1)

frame_comes : (settings : Conf) (s : State) (cores : Db → Core) (frame : Frame) → AllDrive s cores → Comes settings s cores frame (turn_of settings s frame)
frame_comes settings s cores (frame.Request input) d = request_comes settings s cores input (request_frame settings s (request_of input)) (any_asked settings s cores (request_of input) d)
frame_comes settings s cores (frame.SetFile id held) d =
    let f = with_file s.files id held in (
      over_files f cores,
      record {
        moves = record { drive = set_file_drive s cores f d; gained = λ db. refl; over = λ db. record { moves = []; own = All-nil (IsBy 0); runs = refl } };
        replied = refl;
        files_are = refl;
        moment_is = refl;
      },
    )
frame_comes settings s cores (frame.Time moment) d =
    let t = record s { moment = reached_moment s moment } in
    time_comes settings s cores moment (ticks settings t) (all_ticked settings t cores (moment_drive s cores (reached_moment s moment) d))
frame_comes settings s cores (frame.Invalidate db) d =
    invalidate_comes settings s cores db (then_on s db (invalidated (cache_of s db)) silent) (last_part cores none_add s cores db (invalidated (cache_of s db)) (all_stay s cores d) refl (invalidation_passes db 0 (cores db) (cache_of s db) (d.drives db)))
frame_comes settings s cores frame.End d = (cores, record { moves = all_stay s cores d; replied = refl; files_are = refl; moment_is = refl })

-- ---- the law

-- what a frame and those after it write
record Turned (settings : Conf) (frame : Frame) (frames : List Frame) (last : Finish) (s : State) (cores : Db → Core) (r : Result Went Finish) (replayed : Replayed) : Type 0 where
  pieces : List (List ℕ)
  played : PlayedThen (λ t new later. EachReplied settings frames last t new later replayed.finish) settings s cores frame pieces replayed.finish r
  output_is : replayed.output ≡ concat pieces

turned : (settings : Conf) (frame : Frame) (frames : List Frame) (last : Finish) (s : State) (cores : Db → Core) (r : Result Went Finish) → Comes settings s cores frame r
    → ((t : State) (new : Db → Core) → AllDrive t new → WritesInTurn settings frames last t new (play settings frames last t)) → Turned settings frame frames last s cores r (play_on (play settings frames last) r)
turned settings frame frames last s cores (Ok went) w others =
    let rest = others went.state w.0 w.1.moves.drive in
    record { pieces = went.writes ∷ rest.pieces; played = (w.0, rest.pieces, w.1, refl, rest.each_replied); output_is = ap (λ (xs : List ℕ). went.writes ++ xs) rest.output_is }
turned settings frame frames last s cores (Err finish) w others = record { pieces = []; played = (w.0, w.1, refl, refl); output_is = refl }

all_replayed : (settings : Conf) (frames : List Frame) (last : Finish) (s : State) (cores : Db → Core) → AllDrive s cores → WritesInTurn settings frames last s cores (play settings frames last s)
unfolding play
all_replayed settings [] last s cores d = record { pieces = []; each_replied = (d, refl, refl); output_is = refl }
all_replayed settings (frame ∷ frames) last s cores d =
    let t = turned settings frame frames last s cores (turn_of settings s frame) (frame_comes settings s cores frame d) (λ t new e. all_replayed settings frames last t new e) in
    record { pieces = t.pieces; each_replied = (d, t.played); output_is = t.output_is }

pub frames_law : (settings : Conf) (frames : List Frame) (last : Finish) → WritesInTurn settings frames last first_state (λ db. opening db no_files) (play settings frames last first_state)
frames_law settings frames last = all_replayed settings frames last first_state (λ db. opening db no_files) all_begin

pub bytes_law : (settings : Conf) (bytes : List ℕ) → WritesInTurn settings (cut_at 0 bytes).frames (cut_at 0 bytes).finish first_state (λ db. opening db no_files) (replay settings bytes)
bytes_law settings bytes = frames_law settings (cut_at 0 bytes).frames (cut_at 0 bytes).finish
