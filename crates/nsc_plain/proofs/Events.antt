-- The parts of the machine's events, one after the other.
use Rattle.std.proofs.Common.{◌≡◌, ◌≢◌, ℕ, ◌<◌, ◌-◌, ◌==◌, nat_lt, inl, inr, Bool, true, false, cond, List, [], ◌∷◌, length, find, map, Option, Some, None, Result, Ok, Err, refl, ap, sym, ◌∙◌, subst, arith}
use Rattle.std.proofs.lemmas.Bool.{eq-eqb}
use Rattle.std.proofs.lemmas.Bool.Decides.{eqb_tells}
use Rattle.std.proofs.lemmas.Simd.{map-map}
use Rattle.nsc_model.specs.declared.fault.CacheFault.{CacheFault}
use Rattle.nsc_model.specs.declared.fault.CacheFault.TheVariants.{NoMemory, Spent}
use Rattle.nsc_model.specs.declared.answer.Request.{Request}
use Rattle.nsc_model.specs.declared.record.Record.{Record}
use Rattle.nsc_model.specs.Kinds.{is_request}
use Rattle.nsc_model.specs.Content.{Content}
use Rattle.nsc_model.specs.Entry.{kept_limit}
use Rattle.nsc_model.specs.declared.conf.DbConf.{DbConf}
use Rattle.nsc_model.specs.Answers.{answer_of, request_beside}
use Rattle.nsc_model.specs.Machine.{Kept, Cache, Passed, Stopped, Turn, Refusal, TooLarge, Discarded, Present, Spent as Uncounted, Full, last_count, after_adds, ◌>>=◌, Candidate, refusal, room_of, tried_by, tried, tried_all, tried_with, made_then, or_later, overtaken, present_cause, entry_words, candidates_beside, candidates_of, candidate_again, new_entry, polled, cached, kept_answer, loaded, hit_or_load, lookup, compacted, compacted_after, emptied, invalidated, ends_of, due_cause, stopped, unchanged, is_due, due_of, others_of, reloaded_of, reloaded, pruned, checked, tick, ticked_after}
use Rattle.nsc_model.specs.Events.{TurnsTo, ComesTo, StopsAt}
use Rattle.nsc_model.specs.Faults.{StopsBy, FaultsBy, GivesUpBy}
use Rattle.nsc_plain.specs.PlainCache.{HitsBy}
use Rattle.nsc_plain.specs.Insertion.{Insertion, answered, answered_id, anew, beside}
use Rattle.nsc_plain.specs.EntryList.{inserted_entry, is_made, put, put_all, put_beside, put_with, refused_in}
use Rattle.nsc_plain.proofs.Ends.{none_left}

at_true : {A : Type 0} (x y : A) {b : Bool} → b ≡ true → cond b x y ≡ x
at_true {A} x y {b} e = subst (λ (c : Bool). cond c x y ≡ x) (sym e) refl

at_false : {A : Type 0} (x y : A) {b : Bool} → b ≡ false → cond b x y ≡ y
at_false {A} x y {b} e = subst (λ (c : Bool). cond c x y ≡ y) (sym e) refl

other_number : (a b : ℕ) → a ≢ b → (a == b) ≡ false
other_number a b ne = elim (eqb_tells a b) [ inl p ↦ absurd (ne p.1) | inr p ↦ p.0 ]

-- a cache with no entries, and no counts of its entries
abbrev pub bare : Content → ℕ → ℕ → Cache
bare files version epoch = record { sources = files; newest_version = version; entries = []; used = 0; epoch = epoch; inserted = 0; cycle = 0; add_failed = 0 }

-- ---- one part after another

pub passes_after : (adds : List Record) (r : Result Passed Stopped) (after : Cache) → ComesTo r after → ComesTo (after_adds adds r) after
passes_after adds (Ok passed) after h = h
passes_after adds (Err stop) after h = absurd h

pub stops_after : (adds : List Record) (r : Result Passed Stopped) (after : Cache) (n : ℕ) → StopsAt r after n → StopsAt (after_adds adds r) after n
stops_after adds (Ok passed) after n h = absurd h
stops_after adds (Err stop) after n h = h

pub passes_then : (r : Result Passed Stopped) (next : Cache → Result Passed Stopped) (mid after : Cache) → ComesTo r mid → ComesTo (next mid) after → ComesTo (r >>= next) after
passes_then (Ok passed) next mid after h k = passes_after passed.adds (next passed.cache) after (subst (λ (c : Cache). ComesTo (next c) after) (sym h) k)
passes_then (Err stop) next mid after h k = absurd h

pub stops_first : (r : Result Passed Stopped) (next : Cache → Result Passed Stopped) (after : Cache) (n : ℕ) → StopsAt r after n → StopsAt (r >>= next) after n
stops_first (Ok passed) next after n h = absurd h
stops_first (Err stop) next after n h = h

pub stops_then : (r : Result Passed Stopped) (next : Cache → Result Passed Stopped) (mid after : Cache) (n : ℕ) → ComesTo r mid → StopsAt (next mid) after n → StopsAt (r >>= next) after n
stops_then (Ok passed) next mid after n h k = stops_after passed.adds (next passed.cache) after n (subst (λ (c : Cache). StopsAt (next c) after n) (sym h) k)
stops_then (Err stop) next mid after n h k = absurd h

-- ---- invalidations

goes_on : (cache : Cache) → (cache.epoch == last_count) ≡ false → invalidated cache ≡ after_adds (emptied cache).adds (compacted_after cache.entries (emptied cache).cache)
unfolding invalidated
goes_on cache e = at_false _ _ e

pub invalidation_stops : (cache : Cache) → cache.epoch ≡ last_count → StopsAt (invalidated cache) cache last_count
unfolding invalidated
invalidation_stops cache e =
    let at : invalidated cache ≡ Err (stopped cache) = at_true _ _ (eq-eqb cache.epoch last_count e) in
    subst (λ (r : Result Passed Stopped). StopsAt r cache last_count) (sym at) (refl, refl)

pub invalidation_passes : (cache after : Cache) → cache.epoch ≢ last_count → ComesTo (compacted_after cache.entries (emptied cache).cache) after → ComesTo (invalidated cache) after
invalidation_passes cache after ne h =
    subst (λ (r : Result Passed Stopped). ComesTo r after) (sym (goes_on cache (other_number cache.epoch last_count ne))) (passes_after (emptied cache).adds (compacted_after cache.entries (emptied cache).cache) after h)

pub invalidation_faults : (cache after : Cache) (fault : CacheFault) → cache.epoch ≢ last_count → StopsBy (compacted_after cache.entries (emptied cache).cache) after fault → StopsBy (invalidated cache) after fault
invalidation_faults cache after NoMemory ne h = absurd h
invalidation_faults cache after (Spent n) ne h =
    subst (λ (r : Result Passed Stopped). StopsAt r after n) (sym (goes_on cache (other_number cache.epoch last_count ne))) (stops_after (emptied cache).adds (compacted_after cache.entries (emptied cache).cache) after n h)

-- ---- lookups

-- what goes beside an answer is the machine's
puts_beside : (settings : DbConf) (now : ℕ) (id : Option Request) (cache : Cache)
    → (tried_all settings now (candidates_beside settings id) cache).cache ≡ put_beside true (cond settings.propagate (answered_id cache.sources id) None) settings now cache.newest_version cache
puts_beside settings now None cache = elim settings.propagate as (λ v. cache ≡ put_beside true (cond v None None) settings now cache.newest_version cache) [ true ↦ refl | false ↦ refl ]
puts_beside settings now (Some id) cache =
    elim settings.propagate as (λ v. (tried_all settings now (cond v (candidates_of id) []) cache).cache ≡ put_beside true (cond v (answered_id cache.sources (Some id)) None) settings now cache.newest_version cache) [ true ↦ refl | false ↦ refl ]

-- the insertion of a lookup, and of what goes beside its answer
pub keeps : (settings : DbConf) (now : ℕ) (request : Request) (cache after : Cache) → settings.enabled ≡ true
    → put_with settings now cache.newest_version (answered cache.sources (record { request = request; reloads = 0 })) (beside settings cache.sources request) cache ≡ after → (kept_answer settings now request cache).cache ≡ after
keeps settings now request cache after on p = ap (λ (p : Passed). p.cache) (at_true (tried_with settings now request cache) (unchanged cache) on) ∙ by_refused (refused_in settings now cache.newest_version first cache) ∙ p where
  first : Insertion
  first = answered cache.sources (record { request = request; reloads = 0 })

  k : Kept
  k = inserted_entry settings now cache.newest_version first cache

  next : Cache → Passed
  next = tried_all settings now (candidates_beside settings (request_beside cache.sources request))

  by_refused : (o : Option Refusal) → (made_then o (tried_by o k cache) next).cache ≡ put_beside (is_made o) (beside settings cache.sources request) settings now cache.newest_version (tried_by o k cache).cache
  by_refused None = puts_beside settings now (request_beside cache.sources request) (tried_by None k cache).cache
  by_refused (Some cause) = refl

-- an insertion whose request has a live entry changes nothing
pub present_stays : (settings : DbConf) (now version : ℕ) (i : Insertion) (cache : Cache) (k : Kept) → find (λ (x : Kept). is_request i.request x.entry.request) cache.entries ≡ Some k → put settings now version i cache ≡ cache
present_stays settings now version i cache k found = by_large (nat_lt kept_limit (length i.answer.bytes)) where
  e : Kept
  e = inserted_entry settings now version i cache

  later : Option Refusal
  later = cond (cache.inserted == last_count) (Some (Uncounted last_count)) (cond (nat_lt (room_of settings - cache.used) (entry_words e.entry)) (Some (Full (entry_words e.entry) (room_of settings - cache.used))) None)

  by_found : (o : Option Kept) → o ≡ Some k → (b : Bool) → (tried_by (or_later (cond b (Some (Discarded cache.epoch cache.epoch)) (present_cause o)) later) e cache).cache ≡ cache
  by_found o is true = refl
  by_found None is false = absurd cc
  by_found (Some x) is false = refl

  by_large : (b : Bool) → (tried_by (cond b (Some (TooLarge (length i.answer.bytes))) (or_later (overtaken cache.epoch i.request cache) later)) e cache).cache ≡ cache
  by_large true = refl
  by_large false = by_found (find (λ (x : Kept). is_request i.request x.entry.request) cache.entries) found (nat_lt cache.epoch cache.epoch)

-- where the database is cached, an entry is searched for among those that live
pub searched : (settings : DbConf) (request : Request) (before after : Cache) (hit : Option (List ℕ)) → settings.enabled ≡ true → HitsBy (find (λ k. is_request request k.entry.request) before.entries) request before after hit
    → HitsBy (cached settings request before) request before after hit
searched settings request before after hit on h =
    let at : cached settings request before ≡ find (λ k. is_request request k.entry.request) before.entries = at_true _ _ on in
    subst (λ (o : Option Kept). HitsBy o request before after hit) (sym at) h

-- a hit is the machine's
hit_turns : (o : Option Kept) (settings : DbConf) (now : ℕ) (files : Content) (request : Request) (before after : Cache) (reply : List ℕ) → HitsBy o request before after (Some reply)
    → TurnsTo (hit_or_load o settings now files request before) after reply
hit_turns None settings now files request before after reply h = absurd cc
hit_turns (Some k) settings now files request before after reply h = let e : k.entry.answer.bytes ≡ reply = cc in (sym h.1, e)

pub hits : (settings : DbConf) (now : ℕ) (files : Content) (request : Request) (before after : Cache) (hit : Option (List ℕ)) (reply : List ℕ) → hit ≡ Some reply
    → HitsBy (cached settings request before) request before after hit → TurnsTo (lookup settings now files request before) after reply
unfolding lookup
hits settings now files request before after hit reply e h =
    hit_turns (cached settings request before) settings now files request before after reply (subst (λ (o : Option (List ℕ)). HitsBy (cached settings request before) request before after o) e h)

-- a lookup that finds nothing changes nothing
nothing_hit : (o : Option Kept) (request : Request) (before mid : Cache) → HitsBy o request before mid None → (o ≡ None) × (mid ≡ before)
nothing_hit None request before mid h = (refl, h.1)
nothing_hit (Some k) request before mid h = absurd cc

pub misses : (settings : DbConf) (request : Request) (before mid : Cache) (hit : Option (List ℕ)) → hit ≡ None → HitsBy (cached settings request before) request before mid hit
    → (cached settings request before ≡ None) × (mid ≡ before)
misses settings request before mid hit e h =
    nothing_hit (cached settings request before) request before mid (subst (λ (o : Option (List ℕ)). HitsBy (cached settings request before) request before mid o) e h)

looks_on : (settings : DbConf) (now : ℕ) (files : Content) (request : Request) (before : Cache) → cached settings request before ≡ None
    → lookup settings now files request before ≡ loaded settings now request (polled files before)
unfolding lookup
looks_on settings now files request before none = ap (λ (o : Option Kept). hit_or_load o settings now files request before) none

load_turns : (settings : DbConf) (now : ℕ) (request : Request) (r : Result Passed Stopped) (mid after : Cache) (reply : List ℕ) → ComesTo r mid
    → (kept_answer settings now request mid).cache ≡ after → (answer_of mid.sources request).bytes ≡ reply → TurnsTo (loaded settings now request r) after reply
load_turns settings now request (Ok poll) mid after reply p k a =
    (subst (λ (c : Cache). (kept_answer settings now request c).cache ≡ after) (sym p) k, subst (λ (c : Cache). (answer_of c.sources request).bytes ≡ reply) (sym p) a)
load_turns settings now request (Err stop) mid after reply p k a = absurd p

pub loads : (settings : DbConf) (now : ℕ) (files : Content) (request : Request) (before mid after : Cache) (reply : List ℕ) → cached settings request before ≡ None → ComesTo (polled files before) mid
    → (kept_answer settings now request mid).cache ≡ after → (answer_of mid.sources request).bytes ≡ reply → TurnsTo (lookup settings now files request before) after reply
loads settings now files request before mid after reply none p k a =
    subst (λ (r : Result Turn Stopped). TurnsTo r after reply) (sym (looks_on settings now files request before none)) (load_turns settings now request (polled files before) mid after reply p k a)

load_stops : (settings : DbConf) (now : ℕ) (request : Request) (r : Result Passed Stopped) (after : Cache) (n : ℕ) → StopsAt r after n → StopsAt (loaded settings now request r) after n
load_stops settings now request (Ok poll) after n h = absurd h
load_stops settings now request (Err stop) after n h = h

pub lookup_faults : (settings : DbConf) (now : ℕ) (files : Content) (request : Request) (before after : Cache) (fault : CacheFault) → cached settings request before ≡ None
    → GivesUpBy (polled files before) before after fault → FaultsBy (lookup settings now files request before) files before after fault
lookup_faults settings now files request before after NoMemory none h = inl h
lookup_faults settings now files request before after (Spent n) none h =
    subst (λ (r : Result Turn Stopped). StopsAt r after n) (sym (looks_on settings now files request before none)) (load_stops settings now request (polled files before) after n h)

-- ---- insertions, one after the other

-- a tried insertion keeps the content and the number of its version
tried_sources : (r : Option Refusal) (k : Kept) (cache : Cache) → ((tried_by r k cache).cache.sources ≡ cache.sources) × ((tried_by r k cache).cache.newest_version ≡ cache.newest_version)
tried_sources None k cache = (refl, refl)
tried_sources (Some (TooLarge size)) k cache = (refl, refl)
tried_sources (Some (Discarded loaded epoch)) k cache = (refl, refl)
tried_sources (Some (Present number)) k cache = (refl, refl)
tried_sources (Some (Uncounted count)) k cache = (refl, refl)
tried_sources (Some (Full need free)) k cache = (refl, refl)

put_is_tried : (settings : DbConf) (now : ℕ) (all : List Candidate) (cache : Cache)
    → put_all settings now cache.newest_version (map (answered cache.sources) all) cache ≡ (tried_all settings now all cache).cache
put_is_tried settings now [] cache = refl
put_is_tried settings now (one ∷ others) cache =
    let first = (tried settings now one cache).cache in
    let k = new_entry settings now one cache in
    let same = tried_sources (refusal (room_of settings) cache.epoch k.entry cache) k cache in
    subst (λ (files : Content). put_all settings now cache.newest_version (map (answered files) others) first ≡ (tried_all settings now others first).cache) same.0
    (subst (λ (version : ℕ). put_all settings now version (map (answered first.sources) others) first ≡ (tried_all settings now others first).cache) same.1 (put_is_tried settings now others first))

pub put_is_reloaded : (settings : DbConf) (now : ℕ) (entries : List Kept) (cache : Cache)
    → put_all settings now cache.newest_version (map (anew cache.sources) entries) cache ≡ (reloaded settings now entries cache).cache
put_is_reloaded settings now entries cache =
    subst (λ (all : List Insertion). put_all settings now cache.newest_version all cache ≡ (reloaded settings now entries cache).cache) (map-map (answered cache.sources) candidate_again entries)
    (put_is_tried settings now (map candidate_again entries) cache)

-- ---- ticks

-- where entries are due, the others stay, and the table is compacted
abbrev pub left : ℕ → Cache → Cache
left now cache = record cache { entries = others_of now cache.entries }

compacted_some : (due : List Kept) (cache : Cache) → 0 < length due → compacted_after due cache ≡ compacted cache
compacted_some [] cache h = absurd (omega arith)
compacted_some (k ∷ due) cache h = refl

-- where none is due, nothing changes
pub prunes_nothing : (settings : DbConf) (reloads : Option ℕ) (now : ℕ) (cache : Cache) → due_of now cache.entries ≡ [] → ComesTo (pruned settings reloads now cache) cache
prunes_nothing settings reloads now cache none =
    subst (λ (due : List Kept). ComesTo (after_adds (ends_of (due_cause reloads now) due []) (compacted_after due (left now cache) >>= λ after. Ok (reloaded settings now (reloaded_of reloads due) after))) cache) (sym none)
    (ap (λ (ks : List Kept). record cache { entries = ks }) (none_left (is_due now) cache.entries none))

pub prunes : (settings : DbConf) (reloads : Option ℕ) (now : ℕ) (cache mid after : Cache) → 0 < length (due_of now cache.entries) → ComesTo (compacted (left now cache)) mid
    → (reloaded settings now (reloaded_of reloads (due_of now cache.entries)) mid).cache ≡ after → ComesTo (pruned settings reloads now cache) after
prunes settings reloads now cache mid after some h k =
    let due = due_of now cache.entries in
    let next : Cache → Result Passed Stopped = λ c. Ok (reloaded settings now (reloaded_of reloads due) c) in
    let first : ComesTo (compacted_after due (left now cache)) mid = subst (λ (r : Result Passed Stopped). ComesTo r mid) (sym (compacted_some due (left now cache) some)) h in
    passes_after (ends_of (due_cause reloads now) due []) (compacted_after due (left now cache) >>= next) after (passes_then (compacted_after due (left now cache)) next mid after first k)

pub prune_faults : (settings : DbConf) (reloads : Option ℕ) (now : ℕ) (cache before after : Cache) (fault : CacheFault) → 0 < length (due_of now cache.entries)
    → StopsBy (compacted (left now cache)) after fault → GivesUpBy (pruned settings reloads now cache) before after fault
prune_faults settings reloads now cache before after NoMemory some h = absurd h
prune_faults settings reloads now cache before after (Spent n) some h =
    let due = due_of now cache.entries in
    let next : Cache → Result Passed Stopped = λ c. Ok (reloaded settings now (reloaded_of reloads due) c) in
    let first : StopsAt (compacted_after due (left now cache)) after n = subst (λ (r : Result Passed Stopped). StopsAt r after n) (sym (compacted_some due (left now cache) some)) h in
    stops_after (ends_of (due_cause reloads now) due []) (compacted_after due (left now cache) >>= next) after n (stops_first (compacted_after due (left now cache)) next after n first)

pub tick_rests : (settings : DbConf) (reloads : Option ℕ) (now : ℕ) (files : Content) (ticked : ℕ) (cache : Cache) → settings.enabled ≡ false → ComesTo (tick settings reloads now files ticked cache) cache
unfolding tick
tick_rests settings reloads now files ticked cache off =
    let at : tick settings reloads now files ticked cache ≡ Ok (unchanged cache) = at_false _ _ off in
    subst (λ (r : Result Passed Stopped). ComesTo r cache) (sym at) refl

tick_runs : (settings : DbConf) (reloads : Option ℕ) (now : ℕ) (files : Content) (ticked : ℕ) (cache : Cache) → settings.enabled ≡ true
    → tick settings reloads now files ticked cache ≡ (polled files cache >>= checked settings reloads now ticked)
unfolding tick
tick_runs settings reloads now files ticked cache on = at_true _ _ on

pub tick_passes : (settings : DbConf) (reloads : Option ℕ) (now : ℕ) (files : Content) (ticked : ℕ) (before mid after : Cache) → settings.enabled ≡ true → ComesTo (polled files before) mid
    → ComesTo (checked settings reloads now ticked mid) after → ComesTo (tick settings reloads now files ticked before) after
tick_passes settings reloads now files ticked before mid after on h k =
    subst (λ (r : Result Passed Stopped). ComesTo r after) (sym (tick_runs settings reloads now files ticked before on)) (passes_then (polled files before) (checked settings reloads now ticked) mid after h k)

-- the poll of a tick gave up
pub tick_unpolled : (settings : DbConf) (reloads : Option ℕ) (now : ℕ) (files : Content) (ticked : ℕ) (before after : Cache) (fault : CacheFault) → settings.enabled ≡ true
    → GivesUpBy (polled files before) before after fault → FaultsBy (tick settings reloads now files ticked before) files before after fault
tick_unpolled settings reloads now files ticked before after NoMemory on h = inl h
tick_unpolled settings reloads now files ticked before after (Spent n) on h =
    subst (λ (r : Result Passed Stopped). StopsAt r after n) (sym (tick_runs settings reloads now files ticked before on)) (stops_first (polled files before) (checked settings reloads now ticked) after n h)

-- what came after its poll gave up
pub tick_faults : (settings : DbConf) (reloads : Option ℕ) (now : ℕ) (files : Content) (ticked : ℕ) (before mid after : Cache) (fault : CacheFault) → settings.enabled ≡ true → ComesTo (polled files before) mid
    → GivesUpBy (checked settings reloads now ticked mid) mid after fault → FaultsBy (tick settings reloads now files ticked before) files before after fault
tick_faults settings reloads now files ticked before mid after NoMemory on h k = inr (subst (λ (c : Cache). ComesTo (polled files before) c) (sym k) h)
tick_faults settings reloads now files ticked before mid after (Spent n) on h k =
    subst (λ (r : Result Passed Stopped). StopsAt r after n) (sym (tick_runs settings reloads now files ticked before on)) (stops_then (polled files before) (checked settings reloads now ticked) mid after n h k)

-- what a tick keeps goes by the cache after its poll
pub kept_after : (settings : DbConf) (ticked : ℕ) (r : Result Passed Stopped) (mid : Cache) → ComesTo r mid → ticked_after settings ticked (Ok (unchanged mid)) ≡ ticked_after settings ticked r
kept_after settings ticked (Ok poll) mid h = ap (λ (c : Cache). ticked_after settings ticked (Ok (unchanged c))) (sym h)
kept_after settings ticked (Err stop) mid h = absurd h
