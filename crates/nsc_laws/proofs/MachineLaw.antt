-- The law of the machine: its events are moves of the core, made by one caller.
use Rattle.std.proofs.Common.{◌≡◌, ℕ, Bool, true, false, cond, List, [], ◌∷◌, ◌++◌, refl, sym, ap, subst, ◌∙◌, inl, inr}
use Rattle.std.specs.Prelude.{◌⊎◌, find, map, Option, Some, None, Result, Ok, Err}
use Rattle.std.proofs.lemmas.List.{append-nil}
use Rattle.std.proofs.lemmas.Option.{none-some, same_Some}
use Rattle.nsc_model.specs.declared.kind.Db.{Db}
use Rattle.nsc_model.specs.declared.answer.Request.{Request}
use Rattle.nsc_model.specs.declared.record.Record.{Record}
use Rattle.nsc_model.specs.declared.record.Record.TheVariants.{Change}
use Rattle.nsc_model.specs.Kinds.{is_request}
use Rattle.nsc_model.specs.Content.{Content}
use Rattle.nsc_model.specs.Files.{part_of}
use Rattle.nsc_model.specs.Entry.{Entry}
use Rattle.nsc_model.specs.declared.conf.DbConf.{DbConf}
use Rattle.nsc_model.specs.Answers.{answer_of, request_beside}
use Rattle.nsc_model.specs.History.{version_in, IsLive, Answered}
use Rattle.nsc_laws.specs.Core.{Caller, Core, opening, Files, Look, Replies}
use Rattle.nsc_model.specs.Live.{HasEntry}
use Rattle.nsc_model.specs.Machine.{Kept, Cache, new_cache, Passed, Stopped, unchanged, ◌>>=◌, polled, Candidate, tried, tried_by, tried_all, tried_with, made_then, candidates_beside, candidates_of, kept_answer, new_entry, Refusal, refusal, room_of, cached, used_now, loaded, hit_or_load, lookup, invalidated, compacted_after, ends_of, due_cause, candidate_again, reloaded, due_of, others_of, reloaded_of, pruned, is_outdated, checked, tick}
use Rattle.nsc_laws.specs.Calls.{entries_of, Drives, IsTurned, PassesBy, TurnsBy}
use Rattle.nsc_laws.proofs.Requests.{same_request}
use Rattle.nsc_laws.proofs.CoreLaw.{changed, begun, taking, answered_law}
use Rattle.nsc_laws.proofs.MachineLawLists.{found, used_entries}
use Rattle.nsc_laws.proofs.MachineLawEnds.{ends_after, invalidations_ends, polled_ends, finishes, finishes_own, ended, ends_run, due_allowed, due_live, due_rise, pruned_tells}
use Rattle.nsc_laws.proofs.MachineLawSteps.{Step, one_step, then_step, silent_step, runs_append, CallerStands, Looked, retold, gains_on, caller_on, begin_step, begin_stands, Went, Nothing, Comes, comes_after, comes_then, stays, moved, passes, driven}
use Rattle.nsc_laws.proofs.MachineLawParts.{Polled, poll_comes, MayInsertAll, Tried, tries, tries_all, compacts, invalid_comes}

abbrev given : ℕ → Option ℕ
given n = Some n

abbrev asking : Request → Option Request
asking r = Some r

-- ---- reloads

-- each in a call of its own
reloads : (db : Db) (a : ℕ) (event : List Record) (settings : DbConf) (now : ℕ) (all : List Candidate) (core : Core) (c : Caller) (cache : Cache) → CallerStands a event core c cache → Looked core.history c cache
    → Went db a event core Nothing (tried_all settings now all cache).adds (tried_all settings now all cache).cache
reloads db a event settings now [] core c cache s l = stays db a event core c Nothing cache s tt
reloads db a event settings now (one ∷ others) core c cache s l =
    let c1 = begun c (Some one.request) event in
    let core1 = changed core a c1 in
    let first = tried settings now one cache in
    let t = tries db a event core1 c1 settings now one cache (begin_stands a event core c cache one.request s) (record { version_is = l.version_is; noted_is = l.noted_is; was = l.was }) (inl refl) in
    let w = reloads db a event settings now others t.new c1 first.cache t.stands t.looked in
    record {
      new = w.new;
      caller = w.caller;
      step = silent_step db a event core core1 w.new ((tried_all settings now others first.cache).adds ++ first.adds) (begin_step db a event core c cache one.request s)
          (then_step db a event core1 t.new w.new first.adds (tried_all settings now others first.cache).adds t.step w.step);
      stands = w.stands;
      holds = tt;
    }

-- ---- a tick

prune_comes : (db : Db) (a : ℕ) (event : List Record) (settings : DbConf) (options : Option ℕ) (now : ℕ) (core : Core) (c : Caller) (cache : Cache) → CallerStands a event core c cache → Looked core.history c cache → Comes db a event core Nothing (pruned settings options now cache)
prune_comes db a event settings options now core c cache s l =
    let h = core.history in
    let cause = due_cause options now in
    let due = due_of now cache.entries in
    let rest = reloaded_of options due in
    let after = record cache { entries = others_of now cache.entries } in
    let core1 = ended core cause due in
    let step : Step db a event core (ends_of cause due []) core1 = record {
      moves = finishes cause due;
      own = finishes_own a event cause due;
      runs = ends_run db cause due core (due_live now cache.entries h s.tells.entries_are) (due_allowed options now cache.entries) (due_rise now cache.entries h s.tells.entries_are);
      history_is = sym (ends_after cause due [] h);
      sources_stay = refl;
    } in
    let s1 = gains_on a event core (ends_of cause due h) (ends_of cause due []) c cache after (sym (ends_after cause due [] h)) (pruned_tells options now h cache s.tells) s in
    comes_after db a event core core1 Nothing (ends_of cause due []) (compacted_after due after >>= λ x. Ok (reloaded settings now rest x)) step
    (comes_then db a event core1 Looked Nothing (compacted_after due after) (λ x. Ok (reloaded settings now rest x))
    (compacts db a event core1 c Looked due after s1
    (λ cycle used. record { version_is = l.version_is; noted_is = l.noted_is ∙ ap (λ (n : ℕ). given n) (sym (invalidations_ends cause due h)); was = polled_ends cause due h cache.newest_version l.was }))
    (λ mid d x sources t looked. reloads db a event settings now (map candidate_again rest) mid d x t looked))

check_comes : (db : Db) (a : ℕ) (event : List Record) (settings : DbConf) (options : Option ℕ) (now ticked : ℕ) (core : Core) (c : Caller) (cache : Cache) → CallerStands a event core c cache → Looked core.history c cache → Comes db a event core Nothing (checked settings options now ticked cache)
check_comes db a event settings options now ticked core c cache s l = by_test (is_outdated settings cache.newest_version ticked) where
  by_test : (b : Bool) → Comes db a event core Nothing (cond b (invalidated cache) (pruned settings options now cache))
  by_test true = invalid_comes db a event core c cache s
  by_test false = prune_comes db a event settings options now core c cache s l

tick_comes : (db : Db) (a : ℕ) (event : List Record) (settings : DbConf) (options : Option ℕ) (now ticked : ℕ) (core : Core) (c : Caller) (cache : Cache) → CallerStands a event core c cache → Comes db a event core Nothing (tick settings options now (part_of db core.sources) ticked cache)
unfolding tick
tick_comes db a event settings options now ticked core c cache s = by_test settings.enabled where
  by_test : (b : Bool) → Comes db a event core Nothing (cond b (polled (part_of db core.sources) cache >>= checked settings options now ticked) (Ok (unchanged cache)))
  by_test true = comes_then db a event core (Polled c.request c.seen c.taken cache.entries) Nothing (polled (part_of db core.sources) cache) (checked settings options now ticked) (poll_comes db a event core c cache s)
      (λ mid d x sources t p. check_comes db a event settings options now ticked mid d x t p.looked)
  by_test false = stays db a event core c Nothing cache s tt

-- ---- a lookup

-- the caller may get this reply
record Gets (db : Db) (a : ℕ) (old : Core) (request : Request) (adds : List Record) (reply : List ℕ) (after : Cache) : Type 0 where
  new : Core
  caller : Caller
  step : Step db a old.history old adds new
  stands : CallerStands a old.history new caller after
  request_is : caller.request ≡ Some request
  seen_is : caller.seen ≡ old.history
  live : (e : Entry) → caller.taken ≡ Some e → IsLive new.history e
  source : ((e : Entry) × ((new.callers a).taken ≡ Some e) × (e.answer.bytes ≡ reply))
      ⊎ ((n : ℕ) × (content : Content) × ((new.callers a).asked ≡ Some n) × (version_in new.history n ≡ Some content) × ((answer_of content request).bytes ≡ reply))

gets_turned : (db : Db) (a : ℕ) (old : Core) (cache : Cache) (request : Request) (adds : List Record) (reply : List ℕ) (after : Cache) → Drives db a old cache → (g : Gets db a old request adds reply after) → IsTurned db a old request adds reply after g.new
gets_turned db a old cache request adds reply after d g =
    let m = moved db a old cache adds g.new g.caller after d g.step g.stands in
    let is : (g.new.callers a).request ≡ Some request = ap (λ (x : Caller). x.request) g.stands.caller_is ∙ g.request_is in
    let replies : Replies g.new a reply = record { request = request; request_is = is; source = g.source } in
    let seen : (g.new.callers a).seen ≡ old.history = ap (λ (x : Caller). x.seen) g.stands.caller_is ∙ g.seen_is in
    record {
      moved = m;
      requested = is;
      replies = replies;
      live = λ e is. g.live e (sym (ap (λ (x : Caller). x.taken) g.stands.caller_is) ∙ is);
      answered = subst (λ (h : List Record). Answered h g.new.history request reply) seen (answered_law db m.drives.first m.drives.moves g.new m.drives.runs a reply replies);
    }

hits : (db : Db) (a : ℕ) (old : Core) (request : Request) (cache : Cache) (k : Kept) → CallerStands a old.history old (old.callers a) cache → HasEntry (entries_of cache.entries) k.entry → request ≡ k.entry.request
    → Gets db a old request [] k.entry.answer.bytes (record cache { entries = used_now request cache.entries })
hits db a old request cache k s among same =
    let c1 = begun (old.callers a) (Some request) old.history in
    let core1 = changed old a c1 in
    let s1 = begin_stands a old.history old (old.callers a) cache request s in
    let c2 = taking c1 k.entry in
    let core2 = changed core1 a c2 in
    let s2 = caller_on a old.history core1 c1 c2 cache s1.seen_before s1 in
    record {
      new = core2;
      caller = c2;
      step = silent_step db a old.history old core1 core2 [] (begin_step db a old.history old (old.callers a) cache request s)
          (one_step db a old.history (Look a (Some k.entry)) core1 [] core2 refl
          (s.tells.entries_are.live k.entry among, ap (λ (x : Caller). x.request) s1.caller_is ∙ ap (λ (r : Request). asking r) same, ap (λ (x : Caller). changed core1 a (taking x k.entry)) (sym s1.caller_is)) refl refl);
      stands = retold a old.history core2 c2 cache (used_now request cache.entries) cache.used cache.cycle cache.add_failed (used_entries request cache.entries) s2;
      request_is = refl;
      seen_is = refl;
      live = λ e is. subst (IsLive old.history) (same_Some k.entry e is) (s.tells.entries_are.live k.entry among);
      source = inl (k.entry, ap (λ (x : Caller). x.taken) s2.caller_is, refl);
    }

-- what goes with an entry is of the caller's request
beside_may : (c : Caller) (settings : DbConf) (request : Request) (files : Content) (o : Option Request) → request_beside files request ≡ o → c.request ≡ Some request → MayInsertAll files c (candidates_beside settings o)
beside_may c settings request files None e is = tt
beside_may c settings request files (Some id) e is = elim settings.propagate as (λ v. MayInsertAll files c (cond v (candidates_of id) [])) [ true ↦ (inr (request, is, e), tt) | false ↦ tt ]

keeps : (db : Db) (a : ℕ) (event : List Record) (core : Core) (c : Caller) (settings : DbConf) (now : ℕ) (request : Request) (cache : Cache) → CallerStands a event core c cache → Looked core.history c cache → c.request ≡ Some request
    → Tried db a event core c cache (kept_answer settings now request cache).adds (kept_answer settings now request cache).cache
keeps db a event core c settings now request cache s l is = by_test settings.enabled where
  by_cause : (o : Option Refusal) → Tried db a event core c cache (tried_by o (new_entry settings now (record { request = request; reloads = 0 }) cache) cache).adds (tried_by o (new_entry settings now (record { request = request; reloads = 0 }) cache) cache).cache
      → let p = made_then o (tried_by o (new_entry settings now (record { request = request; reloads = 0 }) cache) cache) (tried_all settings now (candidates_beside settings (request_beside cache.sources request))) in Tried db a event core c cache p.adds p.cache
  by_cause None t =
      let first = tried_by None (new_entry settings now (record { request = request; reloads = 0 }) cache) cache in
      let rest = tries_all db a event t.new c settings now (candidates_beside settings (request_beside cache.sources request)) first.cache t.stands t.looked (beside_may c settings request cache.sources (request_beside cache.sources request) refl is) in
      record {
        new = rest.new;
        step = then_step db a event core t.new rest.new first.adds (tried_all settings now (candidates_beside settings (request_beside cache.sources request)) first.cache).adds t.step rest.step;
        stands = rest.stands;
        looked = rest.looked;
        same_version = rest.same_version ∙ t.same_version;
        same_sources = rest.same_sources ∙ t.same_sources;
      }
  by_cause (Some cause) t = t

  by_test : (b : Bool) → Tried db a event core c cache (cond b (tried_with settings now request cache) (unchanged cache)).adds (cond b (tried_with settings now request cache) (unchanged cache)).cache
  by_test true = by_cause (refusal (room_of settings) cache.epoch (new_entry settings now (record { request = request; reloads = 0 }) cache).entry cache) (tries db a event core c settings now (record { request = request; reloads = 0 }) cache s l (inl is))
  by_test false = tries_all db a event core c settings now [] cache s l tt

abbrev asks : Core → ℕ → Request → Core
asks old a request = changed old a (begun (old.callers a) (Some request) old.history)

misses : (db : Db) (a : ℕ) (old : Core) (settings : DbConf) (now : ℕ) (request : Request) (cache : Cache) → Drives db a old cache → TurnsBy db a old request (loaded settings now request (polled (part_of db old.sources) cache))
misses db a old settings now request cache d = by_poll (polled (part_of db old.sources) cache) looks where
  begins : Step db a old.history old [] (asks old a request)
  begins = begin_step db a old.history old (old.callers a) cache request (driven db a old cache d)

  looks : Comes db a old.history (asks old a request) (Polled (Some request) old.history None cache.entries) (polled (part_of db old.sources) cache)
  looks = poll_comes db a old.history (asks old a request) (begun (old.callers a) (Some request) old.history) cache (begin_stands a old.history old (old.callers a) cache request (driven db a old cache d))

  by_poll : (r : Result Passed Stopped) → Comes db a old.history (asks old a request) (Polled (Some request) old.history None cache.entries) r → TurnsBy db a old request (loaded settings now request r)
  by_poll (Ok poll) w =
      let after = kept_answer settings now request poll.cache in
      let t = keeps db a old.history w.new w.caller settings now request poll.cache w.stands w.holds.looked w.holds.request_is in
      let both = then_step db a old.history (asks old a request) w.new t.new poll.adds after.adds w.step t.step in
      let g : Gets db a old request (after.adds ++ poll.adds) (answer_of poll.cache.sources request).bytes after.cache = record {
        new = t.new;
        caller = w.caller;
        step = silent_step db a old.history old (asks old a request) t.new (after.adds ++ poll.adds) begins both;
        stands = t.stands;
        request_is = w.holds.request_is;
        seen_is = w.holds.seen_is;
        live = λ e is. absurd (none-some e (sym w.holds.taken_is ∙ is));
        source = inr (
          after.cache.newest_version,
          after.cache.sources,
          ap (λ (x : Caller). x.asked) t.stands.caller_is ∙ (w.holds.asked_is ∙ ap (λ (n : ℕ). given n) (sym t.same_version)),
          t.stands.tells.held,
          ap (λ (files : Content). (answer_of files request).bytes) t.same_sources,
        );
      } in
      (g.new, gets_turned db a old cache request (after.adds ++ poll.adds) (answer_of poll.cache.sources request).bytes after.cache d g)
  by_poll (Err stop) w =
      let step = silent_step db a old.history old (asks old a request) w.new stop.adds begins w.step in
      (w.new, moved db a old cache stop.adds w.new w.caller stop.cache d step w.stands)

-- ---- the law

pub opening_drives : (db : Db) (a : ℕ) (sources : Content) → Drives db a (opening db sources) (new_cache (part_of db sources))
opening_drives db a sources = record {
  first = sources;
  moves = [];
  runs = refl;
  seen_before = (Change 0 (part_of db sources) ∷ [], sym (append-nil (Change 0 (part_of db sources) ∷ [])));
  tells = record {
    legal = refl;
    newest_is = refl;
    counted = refl;
    held = refl;
    loads_are = refl;
    epochs_are = refl;
    entries_are = record { live = λ e x. absurd x; all = λ e l. absurd l.inserted; rising = tt };
  };
}

pub files_drive : (db : Db) (a : ℕ) (old : Core) (cache : Cache) (sources : Content) → Drives db a old cache → Drives db a (record old { sources = sources }) cache
files_drive db a old cache sources d = record {
  first = d.first;
  moves = d.moves ++ Files sources ∷ [];
  runs = runs_append db d.moves (Files sources ∷ []) (opening db d.first) old (record old { sources = sources }) d.runs (record old { sources = sources }, refl, refl);
  seen_before = d.seen_before;
  tells = d.tells;
}

found_in : (b : Bool) (o : Option Kept) (k : Kept) → cond b o None ≡ Some k → o ≡ Some k
found_in true o k e = e
found_in false o k e = absurd cc

pub lookup_turns : (db : Db) (a : ℕ) (settings : DbConf) (now : ℕ) (request : Request) (old : Core) (cache : Cache) → Drives db a old cache → TurnsBy db a old request (lookup settings now (part_of db old.sources) request cache)
unfolding lookup
lookup_turns db a settings now request old cache d = by_found (cached settings request cache) refl where
  by_found : (o : Option Kept) → cond settings.enabled (find (λ k. is_request request k.entry.request) cache.entries) None ≡ o → TurnsBy db a old request (hit_or_load o settings now (part_of db old.sources) request cache)
  by_found (Some k) e =
      let at = found (λ x. is_request request x.entry.request) cache.entries k (found_in settings.enabled (find (λ x. is_request request x.entry.request) cache.entries) k e) in
      let g = hits db a old request cache k (driven db a old cache d) at.0 (same_request request k.entry.request at.1) in
      (g.new, gets_turned db a old cache request [] k.entry.answer.bytes (record cache { entries = used_now request cache.entries }) d g)
  by_found None e = misses db a old settings now request cache d

pub tick_passes : (db : Db) (a : ℕ) (settings : DbConf) (options : Option ℕ) (now ticked : ℕ) (old : Core) (cache : Cache) → Drives db a old cache → PassesBy db a old (tick settings options now (part_of db old.sources) ticked cache)
tick_passes db a settings options now ticked old cache d = passes db a old cache Nothing (tick settings options now (part_of db old.sources) ticked cache) d (tick_comes db a old.history settings options now ticked old (old.callers a) cache (driven db a old cache d))

pub invalidation_passes : (db : Db) (a : ℕ) (old : Core) (cache : Cache) → Drives db a old cache → PassesBy db a old (invalidated cache)
invalidation_passes db a old cache d = passes db a old cache Nothing (invalidated cache) d (invalid_comes db a old.history old (old.callers a) cache (driven db a old cache d))
