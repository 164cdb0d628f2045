-- The parts of an event as moves of the core: a poll, an insertion, an invalidation, and the pruning of a tick.
use Rattle.std.proofs.Common.{◌≡◌, ◌≢◌, ℕ, ◌+◌, ◌<◌, Bool, true, false, cond, eqb, ltb, List, [], ◌∷◌, ◌++◌, refl, sym, ap, subst, ◌∙◌, arith, inl, inr, rules}
use Rattle.std.specs.Prelude.{◌⊎◌, length, min, nat_lt, Option, Some, None, Ok, Err}
use Rattle.std.proofs.lemmas.Bool.{false≢true}
use Rattle.nsc_model.specs.declared.kind.Db.{Db}
use Rattle.nsc_model.specs.declared.answer.Request.{Request}
use Rattle.nsc_model.specs.declared.record.Record.{Record}
use Rattle.nsc_model.specs.declared.record.Record.TheVariants.{Change, Poll, Load, Invalid}
use Rattle.nsc_model.specs.Content.{Content}
use Rattle.nsc_model.specs.Files.{part_of, same_files}
use Rattle.nsc_model.specs.Kinds.{is_request}
use Rattle.nsc_model.specs.Entry.{Entry, kept_limit}
use Rattle.nsc_model.specs.declared.conf.DbConf.{DbConf}
use Rattle.nsc_model.specs.History.{loads, invalidations, newest, HasEnd, IsLive, NoneLiveOf, IsTrueAnswer, WasPolled, Legal}
use Rattle.nsc_laws.specs.Core.{Caller, Core, Insert, Empty, IsPoll, MayInsert, ended_all}
use Rattle.nsc_model.specs.Live.{HasEntry, AreLive}
use Rattle.nsc_model.specs.Machine.{last_count, Kept, Cache, unchanged, stopped, after_adds, polled, live_entry, Candidate, new_entry, Refusal, TooLarge, Discarded, Present, Spent, Full, or_later, present_cause, overtaken, refusal, room_of, tried_by, tried, tried_all, entry_words, all_words, compacted_after, emptied, by_invalidation, invalidated}
use Rattle.nsc_laws.specs.Calls.{entries_of, Tells}
use Rattle.nsc_model.proofs.Contents.{one_content}
use Rattle.nsc_model.proofs.Contents.{content_same}
use Rattle.nsc_laws.proofs.Requests.{request_same}
use Rattle.nsc_laws.proofs.Prefixes.{load_below}
use Rattle.nsc_laws.proofs.CoreLawRecords.{ended_or_not, same_invalidations, none_left, all_ended}
use Rattle.nsc_laws.proofs.CoreLawLive.{among_more, among_first, among_last, rise_last, new_live}
use Rattle.nsc_laws.proofs.CoreLaw.{changed, noting, fetching, polling, change_legal}
use Rattle.nsc_laws.proofs.MachineLawLists.{missed}
use Rattle.nsc_laws.proofs.MachineLawEnds.{ends_after, ended_same, changes_ends, loads_ends, newest_ends, version_ends}
use Rattle.nsc_laws.proofs.MachineLawSteps.{Step, no_step, one_step, then_step, silent_step, CallerStands, Looked, retold, gains_on, note_step, note_stands, fetch_step, fetch_stands, polled_core, poll_step, poll_stands, Went, Nothing, Comes, comes_after, stays}

-- ---- a poll

-- what is known after a poll: this caller's call goes on
pub record Polled (request : Option Request) (seen : List Record) (taken : Option Entry) (entries : List Kept) (h : List Record) (c : Caller) (cache : Cache) : Type 0 where
  pub looked : Looked h c cache
  pub asked_is : c.asked ≡ Some cache.newest_version
  pub request_is : c.request ≡ request
  pub seen_is : c.seen ≡ seen
  pub taken_is : c.taken ≡ taken
  pub entries_stay : cache.entries ≡ entries

-- the history tells this version of this content after the poll
pub record Finds (h : List Record) (content : Content) (poll : Record) (after : Cache) : Type 0 where
  pub tells : Tells (poll ∷ h) after
  pub is : IsPoll h content poll after.newest_version
  pub was : WasPolled (poll ∷ h) after.newest_version
  pub same : invalidations (poll ∷ h) ≡ invalidations h

abbrev given : ℕ → Option ℕ
given n = Some n

poll_went : (db : Db) (a : ℕ) (event : List Record) (core : Core) (c : Caller) (cache after : Cache) (poll : Record) → after.entries ≡ cache.entries → CallerStands a event core c cache → Finds core.history (part_of db core.sources) poll after
    → Went db a event core (Polled c.request c.seen c.taken cache.entries) (poll ∷ []) after
poll_went db a event core c cache after poll same s f =
    let k = invalidations core.history in
    let content = part_of db core.sources in
    let c1 = noting c k in
    let core1 = changed core a c1 in
    let s1 = note_stands a event core c cache s in
    let c2 = fetching c1 content in
    let core2 = changed core1 a c2 in
    let s2 = fetch_stands a event core1 c1 cache content s1 in
    record {
      new = polled_core core2 a c2 poll after.newest_version;
      caller = polling c2 after.newest_version;
      step = silent_step db a event core core1 _ (poll ∷ []) (note_step db a event core c cache s)
          (silent_step db a event core1 core2 _ (poll ∷ []) (fetch_step db a event core1 c1 cache k refl s1) (poll_step db a event core2 c2 cache content poll after.newest_version refl f.is s2));
      stands = poll_stands a event core2 c2 cache after poll after.newest_version f.tells s2;
      holds = record {
        looked = record { version_is = refl; noted_is = ap (λ (n : ℕ). given n) (sym f.same); was = f.was };
        asked_is = refl;
        request_is = refl;
        seen_is = refl;
        taken_is = refl;
        entries_stay = same;
      };
    }

abbrev holding : Content → Option Content
holding f = Some f

-- the same entries live
live_like : (h g : List Record) (es : List Entry) → ((e : Entry) → IsLive h e → IsLive g e) → ((e : Entry) → IsLive g e → IsLive h e) → AreLive h es → AreLive g es
live_like h g es to from are = record { live = λ e a. to e (are.live e a); all = λ e l. are.all e (from e l); rising = are.rising }

pub confirmed : (h : List Record) (content : Content) (cache : Cache) → Tells h cache → same_files content cache.sources ≡ true → Finds h content (Poll cache.newest_version) cache
confirmed h content cache t same = record {
  tells = record {
    legal = (t.legal, sym t.counted);
    newest_is = t.newest_is;
    counted = t.counted;
    held = t.held;
    loads_are = t.loads_are;
    epochs_are = t.epochs_are;
    entries_are = live_like h (Poll cache.newest_version ∷ h) (entries_of cache.entries) (λ e l. record { inserted = l.inserted; not_ended = l.not_ended }) (λ e l. record { inserted = l.inserted; not_ended = l.not_ended }) t.entries_are;
  };
  is = inl (t.newest_is ∙ ap (λ (f : Content). holding f) (sym (one_content content cache.sources same)), sym t.counted, refl);
  was = inl refl;
  same = refl;
}

holding_is : (f g : Content) → holding f ≡ holding g → f ≡ g
holding_is f g e = cc

abbrev pub turned : Cache → Content → Cache
turned cache content = record cache { sources = content; newest_version = cache.newest_version + 1 }

eqb_same : (n : ℕ) → eqb n n ≡ true
eqb_same n = search rules

pub differ : (h : List Record) (content : Content) (cache : Cache) → Tells h cache → same_files content cache.sources ≡ false → newest h ≢ Some content
differ h content cache t other e =
    let same : cache.sources ≡ content = holding_is cache.sources content (sym t.newest_is ∙ e) in
    false≢true (sym other ∙ subst (λ (f : Content). same_files content f ≡ true) (sym same) (content_same content))

pub turns : (h : List Record) (content : Content) (cache : Cache) → Tells h cache → same_files content cache.sources ≡ false → Finds h content (Change (cache.newest_version + 1) content) (turned cache content)
turns h content cache t other = record {
  tells = record {
    legal = change_legal h (cache.newest_version + 1) content t.legal (sym t.counted) (differ h content cache t other);
    newest_is = refl;
    counted = let n = t.counted in omega arith;
    held = rw (eqb_same (cache.newest_version + 1)) refl;
    loads_are = t.loads_are;
    epochs_are = t.epochs_are;
    entries_are = live_like h (Change (cache.newest_version + 1) content ∷ h) (entries_of cache.entries) (λ e l. record { inserted = l.inserted; not_ended = l.not_ended }) (λ e l. record { inserted = l.inserted; not_ended = l.not_ended }) t.entries_are;
  };
  is = inr (differ h content cache t other, sym t.counted, refl);
  was = inl refl;
  same = refl;
}

pub poll_comes : (db : Db) (a : ℕ) (event : List Record) (core : Core) (c : Caller) (cache : Cache) → CallerStands a event core c cache → Comes db a event core (Polled c.request c.seen c.taken cache.entries) (polled (part_of db core.sources) cache)
poll_comes db a event core c cache s = by_test (same_files (part_of db core.sources) cache.sources) refl where
  by_count : (b : Bool) → same_files (part_of db core.sources) cache.sources ≡ false
      → Comes db a event core (Polled c.request c.seen c.taken cache.entries) (cond b (Err (stopped cache)) (Ok (record { cache = turned cache (part_of db core.sources); adds = Change (cache.newest_version + 1) (part_of db core.sources) ∷ [] })))
  by_count true other = stays db a event core c Nothing cache s tt
  by_count false other = poll_went db a event core c cache (turned cache (part_of db core.sources)) (Change (cache.newest_version + 1) (part_of db core.sources)) refl s (turns core.history (part_of db core.sources) cache s.tells other)

  by_test : (b : Bool) → same_files (part_of db core.sources) cache.sources ≡ b
      → Comes db a event core (Polled c.request c.seen c.taken cache.entries) (cond b (Ok (record { cache = cache; adds = Poll cache.newest_version ∷ [] }))
      (cond (eqb cache.newest_version last_count) (Err (stopped cache)) (Ok (record { cache = turned cache (part_of db core.sources); adds = Change (cache.newest_version + 1) (part_of db core.sources) ∷ [] }))))
  by_test true same = poll_went db a event core c cache cache (Poll cache.newest_version) refl s (confirmed core.history (part_of db core.sources) cache s.tells same)
  by_test false other = by_count (eqb cache.newest_version last_count) other

-- ---- insertions

-- insertions were tried
pub record Tried (db : Db) (a : ℕ) (event : List Record) (old : Core) (c : Caller) (before : Cache) (adds : List Record) (after : Cache) : Type 0 where
  pub new : Core
  pub step : Step db a event old adds new
  pub stands : CallerStands a event new c after
  pub looked : Looked new.history c after
  pub same_version : after.newest_version ≡ before.newest_version
  pub same_sources : after.sources ≡ before.sources

pub none_of : (h : List Record) (es : List Entry) (request : Request) → AreLive h es → ((e : Entry) → HasEntry es e → e.request ≢ request) → NoneLiveOf h request
none_of h es request are others e loaded same = by_end (ended_or_not h e.number) where
  by_end : HasEnd h e.number ⊎ (HasEnd h e.number → ⊥) → HasEnd h e.number
  by_end (inl gone) = gone
  by_end (inr never) = absurd (others e (are.all e (record { inserted = loaded; not_ended = never })) same)

entries_last : (ks : List Kept) (k : Kept) → entries_of (ks ++ k ∷ []) ≡ entries_of ks ++ k.entry ∷ []
entries_last [] k = refl
entries_last (x ∷ ks) k = ap (λ (es : List Entry). x.entry ∷ es) (entries_last ks k)

abbrev pub inserted_by : Kept → Cache → Cache
inserted_by k cache = record cache { entries = cache.entries ++ k ∷ []; used = cache.used + entry_words k.entry; inserted = cache.inserted + 1 }

load_live : (h : List Record) (es : List Entry) (f : Entry) → Legal h → f.number ≡ loads h → AreLive h es → AreLive (Load f ∷ h) (es ++ f ∷ [])
load_live h es f l is are = record {
  live = λ e a. elim (among_more es f e a) [
    | inl among ↦ (let was = are.live e among in record { inserted = inr was.inserted; not_ended = was.not_ended })
    | inr same ↦ subst (IsLive (Load f ∷ h)) same (new_live h f l is)
  ];
  all = λ e lives. elim lives.inserted [
    | inl same ↦ subst (HasEntry (es ++ f ∷ [])) same (among_last es f)
    | inr before ↦ among_first es f e (are.all e (record { inserted = before; not_ended = lives.not_ended }))
  ];
  rising = rise_last es f (λ e a. let below : e.number < loads h = load_below h e l (are.live e a).inserted in omega arith) are.rising;
}

-- an entry over a version that was polled since the last invalidation
pub kept_tells : (h : List Record) (cache : Cache) (k : Kept) → Tells h cache → k.entry.number ≡ cache.inserted → NoneLiveOf h k.entry.request → IsTrueAnswer h k.entry → WasPolled h k.entry.version → Tells (Load k.entry ∷ h) (inserted_by k cache)
kept_tells h cache k t is none true_answer was =
    let number : k.entry.number ≡ loads h = is ∙ sym t.loads_are in
    record {
      legal = (t.legal, number, none, true_answer, was);
      newest_is = t.newest_is;
      counted = t.counted;
      held = t.held;
      loads_are = let n = t.loads_are in omega arith;
      epochs_are = t.epochs_are;
      entries_are = subst (AreLive (Load k.entry ∷ h)) (sym (entries_last cache.entries k)) (load_live h (entries_of cache.entries) k.entry t.legal number t.entries_are);
    }

-- the request of an insertion that nothing refuses is not live
no_cause : (b : Bool) (cause : Refusal) (o : Option Refusal) → cond b (Some cause) o ≡ None → o ≡ None
no_cause true cause o e = absurd cc
no_cause false cause o e = e

no_earlier : (o later : Option Refusal) → or_later o later ≡ None → o ≡ None
no_earlier None later e = refl
no_earlier (Some cause) later e = absurd cc

no_present : (o : Option Kept) → present_cause o ≡ None → o ≡ None
no_present None e = refl
no_present (Some k) e = absurd cc

not_refused : (room noted : ℕ) (e : Entry) (cache : Cache) → refusal room noted e cache ≡ None → live_entry e.request cache.entries ≡ None
not_refused room noted e cache none = no_present _ (no_cause (nat_lt noted cache.epoch) _ _ (no_earlier (overtaken noted e.request cache) _ (no_cause (nat_lt kept_limit (length e.answer.bytes)) _ _ none)))

pub asked_none : (h : List Record) (cache : Cache) (request : Request) → Tells h cache → live_entry request cache.entries ≡ None → NoneLiveOf h request
asked_none h cache request t none =
    none_of h (entries_of cache.entries) request t.entries_are
    (λ e a same. false≢true (sym (missed (λ (x : Entry). is_request request x.request) cache.entries e none a) ∙ subst (λ (x : Request). is_request request x ≡ true) (sym same) (request_same request)))

refused : (db : Db) (a : ℕ) (event : List Record) (core : Core) (c : Caller) (cache : Cache) (failed : ℕ) → CallerStands a event core c cache → Looked core.history c cache → Tried db a event core c cache [] (record cache { add_failed = failed })
refused db a event core c cache failed s l = record {
  new = core;
  step = no_step db a event core;
  stands = retold a event core c cache cache.entries cache.used cache.cycle failed refl s;
  looked = record { version_is = l.version_is; noted_is = l.noted_is; was = l.was };
  same_version = refl;
  same_sources = refl;
}

inserts : (db : Db) (a : ℕ) (event : List Record) (core : Core) (c : Caller) (settings : DbConf) (now : ℕ) (one : Candidate) (cache : Cache) → CallerStands a event core c cache → Looked core.history c cache → MayInsert cache.sources c one.request
    → live_entry one.request cache.entries ≡ None → Tried db a event core c cache (Load (new_entry settings now one cache).entry ∷ []) (inserted_by (new_entry settings now one cache) cache)
inserts db a event core c settings now one cache s l may absent =
    let h = core.history in
    let k = new_entry settings now one cache in
    let none = asked_none h cache one.request s.tells absent in
    let t = kept_tells h cache k s.tells refl none (cache.sources, s.tells.held, refl) l.was in
    record {
      new = record core { history = Load k.entry ∷ h };
      step = one_step db a event (Insert a one.request k.entry.timeout) core (Load k.entry ∷ []) (record core { history = Load k.entry ∷ h }) refl
          (inl (
            k.entry,
            record {
              content = cache.sources;
              allowed = subst (λ (x : Caller). MayInsert cache.sources x one.request) (sym s.caller_is) may;
              request_is = refl;
              version_is = ap (λ (x : Caller). x.version) s.caller_is ∙ l.version_is;
              noted_is = ap (λ (x : Caller). x.noted) s.caller_is ∙ l.noted_is;
              none_live = none;
              held = s.tells.held;
              number_is = sym s.tells.loads_are;
              answer_is = refl;
              timeout_is = refl;
            },
            refl,
          )) refl refl;
      stands = gains_on a event core (Load k.entry ∷ h) (Load k.entry ∷ []) c cache (inserted_by k cache) refl t s;
      looked = record { version_is = l.version_is; noted_is = l.noted_is; was = l.was };
      same_version = refl;
      same_sources = refl;
    }

pub tries : (db : Db) (a : ℕ) (event : List Record) (core : Core) (c : Caller) (settings : DbConf) (now : ℕ) (one : Candidate) (cache : Cache) → CallerStands a event core c cache → Looked core.history c cache → MayInsert cache.sources c one.request
    → Tried db a event core c cache (tried settings now one cache).adds (tried settings now one cache).cache
tries db a event core c settings now one cache s l may = by_cause (refusal (room_of settings) cache.epoch (new_entry settings now one cache).entry cache) refl where
  by_cause : (o : Option Refusal) → refusal (room_of settings) cache.epoch (new_entry settings now one cache).entry cache ≡ o
      → Tried db a event core c cache (tried_by o (new_entry settings now one cache) cache).adds (tried_by o (new_entry settings now one cache) cache).cache
  by_cause None e = inserts db a event core c settings now one cache s l may (not_refused (room_of settings) cache.epoch (new_entry settings now one cache).entry cache e)
  by_cause (Some (TooLarge size)) e = refused db a event core c cache cache.add_failed s l
  by_cause (Some (Discarded loaded epoch)) e = refused db a event core c cache cache.add_failed s l
  by_cause (Some (Present number)) e = refused db a event core c cache cache.add_failed s l
  by_cause (Some (Spent count)) e = refused db a event core c cache cache.add_failed s l
  by_cause (Some (Full need free)) e = refused db a event core c cache (min (cache.add_failed + 1) last_count) s l

-- one after the other, in one call
abbrev pub MayInsertAll : Content → Caller → List Candidate → Type 0
MayInsertAll files c [] = Unit {0}
MayInsertAll files c (one ∷ others) = MayInsert files c one.request × MayInsertAll files c others

pub tries_all : (db : Db) (a : ℕ) (event : List Record) (core : Core) (c : Caller) (settings : DbConf) (now : ℕ) (all : List Candidate) (cache : Cache) → CallerStands a event core c cache → Looked core.history c cache → MayInsertAll cache.sources c all
    → Tried db a event core c cache (tried_all settings now all cache).adds (tried_all settings now all cache).cache
tries_all db a event core c settings now [] cache s l may = record { new = core; step = no_step db a event core; stands = s; looked = l; same_version = refl; same_sources = refl }
tries_all db a event core c settings now (one ∷ others) cache s l may =
    let first = tried settings now one cache in
    let t = tries db a event core c settings now one cache s l may.0 in
    let rest = tries_all db a event t.new c settings now others first.cache t.stands t.looked (subst (λ (files : Content). MayInsertAll files c others) (sym t.same_sources) may.1) in
    record {
      new = rest.new;
      step = then_step db a event core t.new rest.new first.adds (tried_all settings now others first.cache).adds t.step rest.step;
      stands = rest.stands;
      looked = rest.looked;
      same_version = rest.same_version ∙ t.same_version;
      same_sources = rest.same_sources ∙ t.same_sources;
    }

-- ---- a compaction and an invalidation

pub compacts : (db : Db) (a : ℕ) (event : List Record) (core : Core) (c : Caller) (also : List Record → Caller → Cache → Type 0) (ks : List Kept) (cache : Cache) → CallerStands a event core c cache → ((cycle used : ℕ) → also core.history c (record cache { cycle = cycle; used = used }))
    → Comes db a event core also (compacted_after ks cache)
compacts db a event core c also [] cache s holds = stays db a event core c also cache s (holds cache.cycle cache.used)
compacts db a event core c also (k ∷ ks) cache s holds = by_test (ltb cache.cycle last_count) where
  by_test : (b : Bool) → Comes db a event core also (cond b (Ok (unchanged (record cache { cycle = cache.cycle + 2; used = all_words cache.entries }))) (Err (stopped cache)))
  by_test true = stays db a event core c also (record cache { cycle = cache.cycle + 2; used = all_words cache.entries })
      (retold a event core c cache cache.entries (all_words cache.entries) (cache.cycle + 2) cache.add_failed refl s) (holds (cache.cycle + 2) (all_words cache.entries))
  by_test false = stays db a event core c Nothing cache s tt

pub invalid_tells : (h : List Record) (cache : Cache) → Tells h cache → Tells (Invalid (invalidations h + 1) ∷ ended_all (entries_of cache.entries) h) (emptied cache).cache
invalid_tells h cache t =
    let es = entries_of cache.entries in
    let same = ended_same cache.entries h in
    let none = none_left es h t.entries_are in
    record {
      legal = (all_ended es h t.legal t.entries_are.live t.entries_are.rising, ap (λ (k : ℕ). k + 1) (sym (same_invalidations es h)), none);
      newest_is = rw same (newest_ends by_invalidation cache.entries h ∙ t.newest_is);
      counted = rw same (changes_ends by_invalidation cache.entries h ∙ t.counted);
      held = rw same (version_ends by_invalidation cache.entries h cache.newest_version ∙ t.held);
      loads_are = rw same (loads_ends by_invalidation cache.entries h ∙ t.loads_are);
      epochs_are = ap (λ (k : ℕ). k + 1) (same_invalidations es h ∙ t.epochs_are);
      entries_are = record { live = λ e a. absurd a; all = λ e l. absurd (l.not_ended (none e l.inserted)); rising = tt };
    }

-- the records of an invalidation are those of the core's
pub emptied_is : (h : List Record) (cache : Cache) → Tells h cache → Invalid (invalidations h + 1) ∷ ended_all (entries_of cache.entries) h ≡ (emptied cache).adds ++ h
emptied_is h cache t =
    ap (λ (n : ℕ). Invalid (n + 1) ∷ ended_all (entries_of cache.entries) h) t.epochs_are
    ∙ ap (λ (l : List Record). Invalid (cache.epoch + 1) ∷ l) (ended_same cache.entries h ∙ sym (ends_after by_invalidation cache.entries [] h))

pub invalid_comes : (db : Db) (a : ℕ) (event : List Record) (core : Core) (c : Caller) (cache : Cache) → CallerStands a event core c cache → Comes db a event core Nothing (invalidated cache)
unfolding invalidated
invalid_comes db a event core c cache s = by_test (eqb cache.epoch last_count) where
  history_is : Invalid (invalidations core.history + 1) ∷ ended_all (entries_of cache.entries) core.history ≡ (emptied cache).adds ++ core.history
  history_is = emptied_is core.history cache s.tells

  by_test : (b : Bool) → Comes db a event core Nothing (cond b (Err (stopped cache)) (after_adds (emptied cache).adds (compacted_after cache.entries (emptied cache).cache)))
  by_test true = stays db a event core c Nothing cache s tt
  by_test false =
      let empty = record core { history = Invalid (invalidations core.history + 1) ∷ ended_all (entries_of cache.entries) core.history } in
      comes_after db a event core empty Nothing (emptied cache).adds (compacted_after cache.entries (emptied cache).cache)
      (one_step db a event Empty core (emptied cache).adds empty tt (entries_of cache.entries, s.tells.entries_are, refl) history_is refl)
      (compacts db a event empty c Nothing cache.entries (emptied cache).cache
      (gains_on a event core (Invalid (invalidations core.history + 1) ∷ ended_all (entries_of cache.entries) core.history) (emptied cache).adds c cache (emptied cache).cache history_is (invalid_tells core.history cache s.tells) s)
      (λ cycle used. tt))
