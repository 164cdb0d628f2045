-- Steps of one caller of the core, one after the other, and what is known after them.
use Rattle.std.proofs.Common.{◌≡◌, ℕ, true, eqb, List, [], ◌∷◌, ◌++◌, refl, sym, ap, subst, ◌∙◌, append_assoc, rules}
use Rattle.std.specs.Prelude.{All, Some, Result, Ok, Err}
use Rattle.std.proofs.lemmas.List.Elements.{All-nil, All-cons, All-append}
use Rattle.nsc_model.specs.declared.kind.Db.{Db}
use Rattle.nsc_model.specs.declared.answer.Request.{Request}
use Rattle.nsc_model.specs.declared.record.Record.{Record}
use Rattle.nsc_model.specs.Content.{Content}
use Rattle.nsc_model.specs.Files.{part_of}
use Rattle.nsc_model.specs.History.{invalidations, WasPolled, IsPrefix}
use Rattle.nsc_laws.specs.Core.{Caller, Core, with_caller, Move, Files, Begin, Look, Note, Fetch, PollStep, Insert, Finish, Empty, Compact, Reply, IsPoll, IsMove, AreMoves}
use Rattle.nsc_model.specs.Machine.{Kept, Cache, Passed, Stopped, after_adds, ◌>>=◌}
use Rattle.nsc_laws.specs.Calls.{entries_of, Tells, IsOwn, IsBy, Drives, IsMoved, PassesBy}
use Rattle.nsc_laws.proofs.CoreLaw.{changed, begun, noting, fetching, polling}

-- ---- steps

-- the core moves on by moves of this caller, whose calls begin at this history, and gains exactly these records
pub record Step (db : Db) (a : ℕ) (event : List Record) (old : Core) (adds : List Record) (new : Core) : Type 0 where
  pub moves : List Move
  pub own : All (IsOwn a event) moves
  pub runs : AreMoves db moves old new
  pub history_is : new.history ≡ adds ++ old.history
  pub sources_stay : new.sources ≡ old.sources

pub runs_append : (db : Db) (xs ys : List Move) (a b c : Core) → AreMoves db xs a b → AreMoves db ys b c → AreMoves db (xs ++ ys) a c
runs_append db [] ys a b c r s = subst (λ (x : Core). AreMoves db ys x c) r s
runs_append db (x ∷ xs) ys a b c r s = (r.0, r.1, runs_append db xs ys r.0 b c r.2 s)

-- such moves are of this caller, and leave the files as they are
pub own_by : (a : ℕ) (event : List Record) (move : Move) → IsOwn a event move → IsBy a move
own_by a event (Files content) own = own
own_by a event (Begin caller request seen) own = own.0
own_by a event (Look caller found) own = own
own_by a event (Note caller) own = own
own_by a event (Fetch caller) own = own
own_by a event (PollStep caller) own = own
own_by a event (Insert caller request timeout) own = own
own_by a event (Finish number cause) own = tt
own_by a event Empty own = tt
own_by a event Compact own = tt
own_by a event (Reply caller bytes) own = own

pub no_step : (db : Db) (a : ℕ) (event : List Record) (core : Core) → Step db a event core [] core
no_step db a event core = record { moves = []; own = All-nil (IsOwn a event); runs = refl; history_is = refl; sources_stay = refl }

pub one_step : (db : Db) (a : ℕ) (event : List Record) (move : Move) (old : Core) (adds : List Record) (new : Core) → IsOwn a event move → IsMove db move old new → new.history ≡ adds ++ old.history → new.sources ≡ old.sources → Step db a event old adds new
one_step db a event move old adds new own moves h s = record {
  moves = move ∷ [];
  own = All-cons (IsOwn a event) move [] own (All-nil (IsOwn a event));
  runs = (new, moves, refl);
  history_is = h;
  sources_stay = s;
}

pub then_step : (db : Db) (a : ℕ) (event : List Record) (old mid new : Core) (adds more : List Record) → Step db a event old adds mid → Step db a event mid more new → Step db a event old (more ++ adds) new
then_step db a event old mid new adds more s t = record {
  moves = s.moves ++ t.moves;
  own = All-append (IsOwn a event) s.moves t.moves s.own t.own;
  runs = runs_append db s.moves t.moves old mid new s.runs t.runs;
  history_is = t.history_is ∙ (ap (λ (h : List Record). more ++ h) s.history_is ∙ sym (append_assoc more adds old.history));
  sources_stay = t.sources_stay ∙ s.sources_stay;
}

-- after a step that adds no record
pub silent_step : (db : Db) (a : ℕ) (event : List Record) (old mid new : Core) (more : List Record) → Step db a event old [] mid → Step db a event mid more new → Step db a event old more new
silent_step db a event old mid new more s t = record {
  moves = s.moves ++ t.moves;
  own = All-append (IsOwn a event) s.moves t.moves s.own t.own;
  runs = runs_append db s.moves t.moves old mid new s.runs t.runs;
  history_is = t.history_is ∙ ap (λ (h : List Record). more ++ h) s.history_is;
  sources_stay = t.sources_stay ∙ s.sources_stay;
}

-- ---- prefixes

pub same_prefix : (h : List Record) → IsPrefix h h
same_prefix h = ([], refl)

pub longer_prefix : (seen h more new : List Record) → IsPrefix seen h → new ≡ more ++ h → IsPrefix seen new
longer_prefix seen h more new p e = (more ++ p.0, e ∙ (ap (λ (x : List Record). more ++ x) p.1 ∙ sym (append_assoc more p.0 seen)))

pub both_prefix : (a b c : List Record) → IsPrefix a b → IsPrefix b c → IsPrefix a c
both_prefix a b c p q = longer_prefix a b q.0 c p q.1

-- ---- what is known between steps

-- a caller whose calls begin at this history, and the cache that tells the history as it is now
pub record CallerStands (a : ℕ) (event : List Record) (core : Core) (c : Caller) (cache : Cache) : Type 0 where
  pub caller_is : core.callers a ≡ c
  pub seen_before : IsPrefix c.seen event
  pub onward : IsPrefix event core.history
  pub tells : Tells core.history cache

-- the caller polled the newest version since the last invalidation, which it noted
pub record Looked (h : List Record) (c : Caller) (cache : Cache) : Type 0 where
  pub version_is : c.version ≡ Some cache.newest_version
  pub noted_is : c.noted ≡ Some (invalidations h)
  pub was : WasPolled h cache.newest_version

-- the cache differs only in what its history does not tell
pub retells : (h : List Record) (c : Cache) (entries : List Kept) (used cycle failed : ℕ) → entries_of entries ≡ entries_of c.entries → Tells h c → Tells h (record c { entries = entries; used = used; cycle = cycle; add_failed = failed })
retells h c entries used cycle failed same t = record {
  legal = t.legal;
  newest_is = t.newest_is;
  counted = t.counted;
  held = t.held;
  loads_are = t.loads_are;
  epochs_are = t.epochs_are;
  entries_are = rw same t.entries_are;
}

pub retold : (a : ℕ) (event : List Record) (core : Core) (c : Caller) (cache : Cache) (entries : List Kept) (used cycle failed : ℕ) → entries_of entries ≡ entries_of cache.entries → CallerStands a event core c cache
    → CallerStands a event core c (record cache { entries = entries; used = used; cycle = cycle; add_failed = failed })
retold a event core c cache entries used cycle failed same s = record {
  caller_is = s.caller_is;
  seen_before = s.seen_before;
  onward = s.onward;
  tells = retells core.history cache entries used cycle failed same s.tells;
}

-- the core gains records, and its callers stay
pub gains_on : (a : ℕ) (event : List Record) (core : Core) (h more : List Record) (c : Caller) (cache after : Cache) → h ≡ more ++ core.history → Tells h after → CallerStands a event core c cache → CallerStands a event (record core { history = h }) c after
gains_on a event core h more c cache after e t s = record {
  caller_is = s.caller_is;
  seen_before = s.seen_before;
  onward = longer_prefix event core.history more h s.onward e;
  tells = t;
}

-- ---- moves of the caller

eqb_same : (n : ℕ) → eqb n n ≡ true
eqb_same n = search rules

pub at_own : (callers : ℕ → Caller) (a : ℕ) (c : Caller) → with_caller callers a c a ≡ c
at_own callers a c = rw (eqb_same a) refl

pub caller_on : (a : ℕ) (event : List Record) (core : Core) (c d : Caller) (cache : Cache) → IsPrefix d.seen event → CallerStands a event core c cache → CallerStands a event (changed core a d) d cache
caller_on a event core c d cache p s = record { caller_is = at_own core.callers a d; seen_before = p; onward = s.onward; tells = s.tells }

pub begin_step : (db : Db) (a : ℕ) (event : List Record) (core : Core) (c : Caller) (cache : Cache) (request : Request) → CallerStands a event core c cache → Step db a event core [] (changed core a (begun c (Some request) event))
begin_step db a event core c cache request s =
    one_step db a event (Begin a (Some request) event) core [] (changed core a (begun c (Some request) event)) (refl, refl)
    (subst (λ (x : Caller). IsPrefix x.seen event) (sym s.caller_is) s.seen_before, s.onward, ap (λ (x : Caller). changed core a (begun x (Some request) event)) (sym s.caller_is))
    refl refl

pub begin_stands : (a : ℕ) (event : List Record) (core : Core) (c : Caller) (cache : Cache) (request : Request) → CallerStands a event core c cache → CallerStands a event (changed core a (begun c (Some request) event)) (begun c (Some request) event) cache
begin_stands a event core c cache request s = caller_on a event core c (begun c (Some request) event) cache (same_prefix event) s

pub note_step : (db : Db) (a : ℕ) (event : List Record) (core : Core) (c : Caller) (cache : Cache) → CallerStands a event core c cache → Step db a event core [] (changed core a (noting c (invalidations core.history)))
note_step db a event core c cache s =
    one_step db a event (Note a) core [] (changed core a (noting c (invalidations core.history))) refl
    (ap (λ (x : Caller). changed core a (noting x (invalidations core.history))) (sym s.caller_is)) refl refl

pub note_stands : (a : ℕ) (event : List Record) (core : Core) (c : Caller) (cache : Cache) → CallerStands a event core c cache → CallerStands a event (changed core a (noting c (invalidations core.history))) (noting c (invalidations core.history)) cache
note_stands a event core c cache s = caller_on a event core c (noting c (invalidations core.history)) cache s.seen_before s

pub fetch_step : (db : Db) (a : ℕ) (event : List Record) (core : Core) (c : Caller) (cache : Cache) (epoch : ℕ) → c.noted ≡ Some epoch → CallerStands a event core c cache → Step db a event core [] (changed core a (fetching c (part_of db core.sources)))
fetch_step db a event core c cache epoch n s =
    one_step db a event (Fetch a) core [] (changed core a (fetching c (part_of db core.sources))) refl
    ((epoch, ap (λ (x : Caller). x.noted) s.caller_is ∙ n), ap (λ (x : Caller). changed core a (fetching x (part_of db core.sources))) (sym s.caller_is)) refl refl

pub fetch_stands : (a : ℕ) (event : List Record) (core : Core) (c : Caller) (cache : Cache) (content : Content) → CallerStands a event core c cache → CallerStands a event (changed core a (fetching c content)) (fetching c content) cache
fetch_stands a event core c cache content s = caller_on a event core c (fetching c content) cache s.seen_before s

abbrev pub polled_core : Core → ℕ → Caller → Record → ℕ → Core
polled_core core a c poll n = record core { history = poll ∷ core.history; callers = with_caller core.callers a (polling c n) }

pub poll_step : (db : Db) (a : ℕ) (event : List Record) (core : Core) (c : Caller) (cache : Cache) (content : Content) (poll : Record) (n : ℕ) → c.fetched ≡ Some content → IsPoll core.history content poll n → CallerStands a event core c cache
    → Step db a event core (poll ∷ []) (polled_core core a c poll n)
poll_step db a event core c cache content poll n f is s =
    one_step db a event (PollStep a) core (poll ∷ []) (polled_core core a c poll n) refl
    (content, poll, n, ap (λ (x : Caller). x.fetched) s.caller_is ∙ f, is, ap (λ (x : Caller). polled_core core a x poll n) (sym s.caller_is)) refl refl

pub poll_stands : (a : ℕ) (event : List Record) (core : Core) (c : Caller) (cache after : Cache) (poll : Record) (n : ℕ) → Tells (poll ∷ core.history) after → CallerStands a event core c cache → CallerStands a event (polled_core core a c poll n) (polling c n) after
poll_stands a event core c cache after poll n t s = record {
  caller_is = at_own core.callers a (polling c n);
  seen_before = s.seen_before;
  onward = longer_prefix event core.history (poll ∷ []) (poll ∷ core.history) s.onward refl;
  tells = t;
}

-- ---- parts of events

-- a part of an event moved the core on to where this holds
pub record Went (db : Db) (a : ℕ) (event : List Record) (old : Core) (also : List Record → Caller → Cache → Type 0) (adds : List Record) (after : Cache) : Type 0 where
  pub new : Core
  pub caller : Caller
  pub step : Step db a event old adds new
  pub stands : CallerStands a event new caller after
  pub holds : also new.history caller after

abbrev pub Nothing : List Record → Caller → Cache → Type 0
Nothing h c cache = Unit {0}

-- so also where it stopped, but that nothing more is known there
abbrev pub Comes : Db → ℕ → List Record → Core → (List Record → Caller → Cache → Type 0) → Result Passed Stopped → Type 0
Comes db a event old also (Ok passed) = Went db a event old also passed.adds passed.cache
Comes db a event old also (Err stop) = Went db a event old Nothing stop.adds stop.cache

went_after : (db : Db) (a : ℕ) (event : List Record) (old mid : Core) (also : List Record → Caller → Cache → Type 0) (adds more : List Record) (after : Cache) → Step db a event old adds mid → Went db a event mid also more after → Went db a event old also (more ++ adds) after
went_after db a event old mid also adds more after s w = record { new = w.new; caller = w.caller; step = then_step db a event old mid w.new adds more s w.step; stands = w.stands; holds = w.holds }

pub comes_after : (db : Db) (a : ℕ) (event : List Record) (old mid : Core) (also : List Record → Caller → Cache → Type 0) (adds : List Record) (r : Result Passed Stopped) → Step db a event old adds mid → Comes db a event mid also r → Comes db a event old also (after_adds adds r)
comes_after db a event old mid also adds (Ok passed) s w = went_after db a event old mid also adds passed.adds passed.cache s w
comes_after db a event old mid also adds (Err stop) s w = went_after db a event old mid Nothing adds stop.adds stop.cache s w

pub comes_then : (db : Db) (a : ℕ) (event : List Record) (old : Core) (also also_then : List Record → Caller → Cache → Type 0) (r : Result Passed Stopped) (next : Cache → Result Passed Stopped)
    → Comes db a event old also r → ((mid : Core) (c : Caller) (cache : Cache) → mid.sources ≡ old.sources → CallerStands a event mid c cache → also mid.history c cache → Comes db a event mid also_then (next cache)) → Comes db a event old also_then (r >>= next)
comes_then db a event old also also_then (Ok passed) next w f =
    comes_after db a event old w.new also_then passed.adds (next passed.cache) w.step (f w.new w.caller passed.cache w.step.sources_stay w.stands w.holds)
comes_then db a event old also also_then (Err stop) next w f = w

pub stays : (db : Db) (a : ℕ) (event : List Record) (core : Core) (c : Caller) (also : List Record → Caller → Cache → Type 0) (cache : Cache) → CallerStands a event core c cache → also core.history c cache → Went db a event core also [] cache
stays db a event core c also cache s holds = record { new = core; caller = c; step = no_step db a event core; stands = s; holds = holds }

-- ---- whole events

pub drive_on : (db : Db) (a : ℕ) (old : Core) (cache : Cache) (event adds : List Record) (new : Core) (c : Caller) (after : Cache) → Drives db a old cache → Step db a event old adds new → CallerStands a event new c after → Drives db a new after
drive_on db a old cache event adds new c after d step s = record {
  first = d.first;
  moves = d.moves ++ step.moves;
  runs = runs_append db d.moves step.moves _ old new d.runs step.runs;
  seen_before = both_prefix _ event new.history (subst (λ (x : Caller). IsPrefix x.seen event) (sym s.caller_is) s.seen_before) s.onward;
  tells = s.tells;
}

pub moved : (db : Db) (a : ℕ) (old : Core) (cache : Cache) (adds : List Record) (new : Core) (c : Caller) (after : Cache) → Drives db a old cache → Step db a old.history old adds new → CallerStands a old.history new c after → IsMoved db a old adds after new
moved db a old cache adds new c after d step s = record {
  moves = step.moves;
  own = step.own;
  runs = step.runs;
  history_is = step.history_is;
  sources_stay = step.sources_stay;
  drives = drive_on db a old cache old.history adds new c after d step s;
}

pub passes : (db : Db) (a : ℕ) (old : Core) (cache : Cache) (also : List Record → Caller → Cache → Type 0) (r : Result Passed Stopped) → Drives db a old cache → Comes db a old.history old also r → PassesBy db a old r
passes db a old cache also (Ok passed) d w = (w.new, moved db a old cache passed.adds w.new w.caller passed.cache d w.step w.stands)
passes db a old cache also (Err stop) d w = (w.new, moved db a old cache stop.adds w.new w.caller stop.cache d w.step w.stands)

-- what is known of the caller that drives a core, before an event
pub driven : (db : Db) (a : ℕ) (core : Core) (cache : Cache) → Drives db a core cache → CallerStands a core.history core (core.callers a) cache
driven db a core cache d = record { caller_is = refl; seen_before = d.seen_before; onward = same_prefix core.history; tells = d.tells }
