-- What turns leave of a database of a replay.
use Rattle.std.proofs.Common.{◌≡◌, ◌∙◌, ℕ, inl, inr, Bool, true, false, cond, List, map, Option, Some, None, Result, Ok, Err, refl, sym, ap, subst}
use Rattle.std.specs.Bool.{OnTrue}
use Rattle.std.specs.Prelude.{IfErr, IfOk, IfSome}
use Rattle.nsc_words.specs.declared.layout.Layout.{Layout}
use Rattle.nsc_model.specs.declared.fault.CacheFault.{CacheFault}
use Rattle.nsc_model.specs.declared.fault.CacheFault.TheVariants as faults
use Rattle.nsc_model.specs.Content.{Content}
use Rattle.nsc_model.specs.declared.conf.DbConf.{DbConf}
use Rattle.nsc_model.specs.declared.store.Spent.{Spent}
use Rattle.nsc_model.specs.declared.answer.Request.{Request}
use Rattle.nsc_model.specs.Answers.{answer_of, request_beside}
use Rattle.nsc_model.specs.Machine.{◌>>=◌, Cache, Passed, Stopped, cached, checked, due_of, kept_answer, lookup, polled, ticked_after, tried_with, unchanged, invalidated, is_outdated, pruned, room_of}
use Rattle.nsc_pruner.specs.Due.{Due, due_from, marked_by, pruned_by}
use Rattle.nsc_writer.specs.Loaded.{Loaded}
use Rattle.nsc_writer.specs.declared.loaded.Inserted.{Inserted}
use Rattle.nsc_writer.specs.Writer.{Inserts, IsAnswered, Writer, passed_by}
use Rattle.nsc_turns.specs.Ticks.{Checks, Renews, compacted_for, ended_of}
use Rattle.nsc_turns.specs.Turns.{Completes, CompletesWith, InsertsBeside, Stops, missed}
use Rattle.nsc_turns.proofs.Emptied.{sources_left, sources_stopped}
use Rattle.nsc_turns.proofs.Events.{stops_first, stops_then}
use Rattle.nsc_turns.proofs.Machines.{IsAlone, current_checks, kept_by_insert, renews_pruned}
use Rattle.nsc_turns.proofs.Polled.{KeepsAnswer, counted_as, lookup_completes, lookup_stops}
use Rattle.nsc_turns.specs.declared.answering.Answering.{Answering}
use Rattle.nsc_turns.specs.Loads.{anew_of, beside_of, loaded_id, loaded_of}
use Rattle.nsc_writer.specs.declared.loaded.Stamp.{Stamp}
use Rattle.nsc_laws.specs.Calls.{Tells}
use Rattle.nsc_model.specs.History.{version_in}
use Rattle.nsc_turns.proofs.Renewed.{leaves_pruned, leaves_renewed, spends}
use Rattle.nsc_replay.specs.Cached.{Cached, Faults, GivesUp, IsFresh, ticked_at}

-- what a database owes of its writer
abbrev pub IsKept : Bool → Content → ℕ → Writer → Type 0
IsKept is_polled files room w = OnTrue is_polled (w.cache.sources ≡ files) × (w.layout.arena ≡ room) × (w.slide ≡ None)

on_true : (b : Bool) (A B : Type 0) → (A → B) → OnTrue b A → OnTrue b B
on_true true A B f a = f a
on_true false A B f a = a

-- a turn that keeps the newest content, the layout, and no slide under way
pub kept_on : (b : Bool) (files : Content) (room : ℕ) (w w' : Writer) → w'.cache.sources ≡ w.cache.sources → w'.layout ≡ w.layout → w'.slide ≡ w.slide → IsKept b files room w → IsKept b files room w'
kept_on b files room w w' sources layout slide k = (on_true b (w.cache.sources ≡ files) (w'.cache.sources ≡ files) (λ is. sources ∙ is) k.0, ap (λ (x : Layout). x.arena) layout ∙ k.1, slide ∙ k.2)

-- an event that completes, or that stops, leaves the layout, and no slide under way
pub layout_completed : (r : Result Passed Stopped) (w w' : Writer) → Completes r w w' → (w'.layout ≡ w.layout) × (w'.slide ≡ w.slide)
layout_completed (Ok passed) w w' p = (ap (λ (x : Writer). x.layout) p, ap (λ (x : Writer). x.slide) p)
layout_completed (Err stop) w w' p = absurd p

pub layout_stopped : (r : Result Passed Stopped) (count : ℕ) (w w' : Writer) → Stops r count w w' → (w'.layout ≡ w.layout) × (w'.slide ≡ w.slide)
layout_stopped (Ok passed) count w w' s = absurd s
layout_stopped (Err stop) count w w' s = (ap (λ (x : Writer). x.layout) s.1, ap (λ (x : Writer). x.slide) s.1)

-- ---- faults

pub faults_first : (files : Content) (next : Cache → Result Passed Stopped) (w w' : Writer) (fault : CacheFault) → GivesUp (polled files w.cache) w w' fault → Faults (polled files w.cache >>= next) files w w' fault
faults_first files next w w' faults.NoMemory g = inl g
faults_first files next w w' (faults.Spent count) g = stops_first (polled files w.cache) next count w w' g

pub faults_then : (files : Content) (next : Cache → Result Passed Stopped) (w mid w' : Writer) (fault : CacheFault) → Completes (polled files w.cache) w mid → GivesUp (next mid.cache) mid w' fault → Faults (polled files w.cache >>= next) files w w' fault
faults_then files next w mid w' faults.NoMemory p g = inr (subst (Completes (polled files w.cache) w) (sym g) p)
faults_then files next w mid w' (faults.Spent count) p g = stops_then (polled files w.cache) next count w mid w' p g

-- the version that a tick keeps which stops after its poll, and before it
pub kept_after : (settings : DbConf) (ticked : ℕ) (r : Result Passed Stopped) (w mid : Writer) → Completes r w mid → ticked_after settings ticked (Ok (unchanged mid.cache)) ≡ ticked_after settings ticked r
kept_after settings ticked (Ok poll) w mid p = ap (λ (x : Writer). ticked_after settings ticked (Ok (unchanged x.cache))) p
kept_after settings ticked (Err stop) w mid p = absurd p

pub kept_before : (settings : DbConf) (ticked : ℕ) (r : Result Passed Stopped) (w w' : Writer) (fault : CacheFault) → GivesUp r w w' fault → ticked ≡ ticked_at fault ticked (ticked_after settings ticked r)
kept_before settings ticked r w w' faults.NoMemory g = refl
kept_before settings ticked (Ok poll) w w' (faults.Spent count) g = absurd g
kept_before settings ticked (Err stop) w w' (faults.Spent count) g = refl

-- ---- invalidations, and what a tick looks for

pub kept_invalidated : (r : Result ℕ Spent) (b : Bool) (files : Content) (room : ℕ) (w w' : Writer) → IfOk r (λ epoch. Completes (invalidated w.cache) w w') → IfErr r (λ spent. Stops (invalidated w.cache) spent.count w w') → IsKept b files room w → IsKept b files room w'
kept_invalidated (Ok epoch) b files room w w' p s k = let same = layout_completed (invalidated w.cache) w w' p in kept_on b files room w w' (sources_left w w' p) same.0 same.1 k
kept_invalidated (Err spent) b files room w w' p s k = let same = layout_stopped (invalidated w.cache) spent.count w w' s in kept_on b files room w w' (sources_stopped w w' spent.count s) same.0 same.1 k

pub kept_same : (b : Bool) (files : Content) (room : ℕ) (w w' : Writer) → w' ≡ w → IsKept b files room w → IsKept b files room w'
kept_same b files room w w' is k = subst (IsKept b files room) (sym is) k

pub kept_faulted : (fault : CacheFault) (outdated : Bool) (limit : Option ℕ) (now : ℕ) (b : Bool) (files : Content) (room : ℕ) (w w' : Writer) → Checks outdated limit now w w' (Err fault) → IsKept b files room w → IsKept b files room w'
kept_faulted faults.NoMemory outdated limit now b files room w w' c k = kept_same b files room w w' c.1 k
kept_faulted (faults.Spent count) outdated limit now b files room w w' c k = kept_invalidated (Err (record { count = count })) b files room w w' tt c.1 k

pub current_faults : (fault : CacheFault) (settings : DbConf) (limit : Option ℕ) (now ticked : ℕ) (w w' : Writer) → is_outdated settings w.cache.newest_version ticked ≡ false → GivesUp (pruned settings limit now w.cache) w w' fault → GivesUp (checked settings limit now ticked w.cache) w w' fault
current_faults faults.NoMemory settings limit now ticked w w' off g = g
current_faults (faults.Spent count) settings limit now ticked w w' off g = current_checks (λ (r : Result Passed Stopped). Stops r count w w') settings limit now ticked w.cache off g

-- ---- renewals

pub kept_renewed : (now : ℕ) (due : List Due) (loads : List (Option Loaded)) (b : Bool) (files : Content) (room : ℕ) (w w' : Writer) → Renews now due loads w w' → IsKept b files room w → IsKept b files room w'
kept_renewed now due loads b files room w w' r k = let l = leaves_renewed now due loads w w' r in kept_on b files room w w' l.sources l.layout l.slide k

pub kept_spent : (now count : ℕ) (due : List Due) (b : Bool) (files : Content) (room : ℕ) (w w' : Writer) → Stops (compacted_for (ended_of (marked_by now due w)) (pruned_by now due w).cache) count (pruned_by now due w) w' → IsKept b files room w → IsKept b files room w'
kept_spent now count due b files room w w' s k =
    let l = leaves_pruned now due w in
    kept_same b files room (pruned_by now due w) w' (spends (ended_of (marked_by now due w)) count (pruned_by now due w) w' s).same (kept_on b files room w (pruned_by now due w) l.sources l.layout l.slide k)

-- what is answered over files that were just polled
pub version_fresh : (files : Content) (stamp : Stamp) (w : Writer) → IsFresh files stamp w → Tells w.seen w.cache → version_in w.seen stamp.version ≡ Some files
version_fresh files stamp w f t = ap (version_in w.seen) f.version ∙ t.held ∙ ap (λ (c : Content). Some c) f.sources

pub alone_fresh : (a : Answering) (files : Content) (w : Writer) → IsFresh files a.stamp w → w.layout.arena ≡ room_of a.settings → IsAlone a files w
alone_fresh a files w f room = record { room = room; version = f.version; epoch = f.epoch; sources = f.sources }

-- what was made for a renewal
pub record IsMade (a : Answering) (files : Content) (limit : Option ℕ) (due : List Due) (loads : List (Option Loaded)) (w : Writer) : Type 0 where
  pub due_are : due ≡ map (due_from limit) (due_of a.moment w.cache.entries)
  pub loads_are : loads ≡ map (anew_of a files) due

pub renewed_completes : (a : Answering) (files : Content) (limit : Option ℕ) (due : List Due) (loads : List (Option Loaded)) (w w' : Writer) → IsMade a files limit due loads w → Tells w.seen w.cache → IsAlone a files w → Renews a.moment due loads w w' → Completes (pruned a.settings limit a.moment w.cache) w w'
renewed_completes a files limit due loads w w' m t s r =
    let loads : loads ≡ map (anew_of a files) (map (due_from limit) (due_of a.moment w.cache.entries)) = m.loads_are ∙ ap (map (anew_of a files)) m.due_are in
    renews_pruned a files limit w w' t s (subst (λ (x : List Due × List (Option Loaded)). Renews a.moment x.0 x.1 w w') (λ i. (m.due_are i, loads i)) r)

pub renewal_faults : (r : Result (Unit {0}) CacheFault) (settings : DbConf) (limit : Option ℕ) (now ticked : ℕ) (w w1 w' : Writer) → is_outdated settings w.cache.newest_version ticked ≡ false → w1 ≡ w → IfErr r (GivesUp (pruned settings limit now w1.cache) w1 w') → IfErr r (GivesUp (checked settings limit now ticked w.cache) w w')
renewal_faults (Ok done) settings limit now ticked w w1 w' off same g = tt
renewal_faults (Err fault) settings limit now ticked w w1 w' off same g = current_faults fault settings limit now ticked w w' off (subst (λ (x : Writer). GivesUp (pruned settings limit now x.cache) x w' fault) same g)

-- ---- lookups

pub lookup_faults : (fault : CacheFault) (settings : DbConf) (now : ℕ) (files : Content) (request : Request) (w w' : Writer) → cached settings request w.cache ≡ None → GivesUp (polled files w.cache) w w' fault → Faults (lookup settings now files request w.cache) files w w' fault
lookup_faults faults.NoMemory settings now files request w w' none g = inl g
lookup_faults (faults.Spent count) settings now files request w w' none g = lookup_stops settings now files request count w w' none g

pub answered_fresh : (a : Answering) (files : Content) (request : Request) (reloads : ℕ) (l : Loaded) (w : Writer) → l ≡ loaded_of a files request reloads → IsFresh files a.stamp w → Tells w.seen w.cache → IsAnswered w.seen l
answered_fresh a files request reloads l w is f t = subst (IsAnswered w.seen) (sym is) (record { files = files; version = version_fresh files a.stamp w f t; answer = refl; polled = f.polled })

-- what goes beside an answer is answered too
pub beside_fresh : (a : Answering) (files : Content) (request : Request) (o : Option Loaded) (w : Writer) → o ≡ beside_of a files request → IsFresh files a.stamp w → Tells w.seen w.cache → IfSome o (IsAnswered w.seen)
beside_fresh a files request o w is f t = subst (λ (x : Option Loaded). IfSome x (IsAnswered w.seen)) (sym is) (by_test a.settings.propagate (request_beside files request)) where
  by_test : (b : Bool) (id : Option Request) → IfSome (cond b (loaded_id a files id) None) (IsAnswered w.seen)
  by_test true None = tt
  by_test true (Some id) = answered_fresh a files id 0 (loaded_of a files id 0) w refl f t
  by_test false id = tt

-- after the poll of a lookup that found no entry
pub record IsMissed (a : Answering) (request : Request) (l : Loaded) (s p : Cached) : Type 0 where
  pub none : cached s.settings request s.writer.cache ≡ None
  pub completes : Completes (polled s.files s.writer.cache) s.writer p.writer
  pub fresh : IsFresh s.files a.stamp p.writer
  pub rest : p ≡ record s { writer = p.writer }
  pub settings : a.settings ≡ p.settings
  pub loaded : l ≡ loaded_of a p.files request 0

answer_is : (a : Answering) (request : Request) (l : Loaded) (s p : Cached) (reply : List ℕ) → IsMissed a request l s p → reply ≡ l.answer.bytes → (answer_of p.writer.cache.sources request).bytes ≡ reply
answer_is a request l s p reply m said =
    ap (λ (c : Content). (answer_of c request).bytes) (m.fresh.sources ∙ sym (ap (λ (x : Cached). x.files) m.rest)) ∙ sym (said ∙ ap (λ (x : Loaded). x.answer.bytes) m.loaded)

-- an insertion whose miss was counted
missed_keeps : (l : Loaded) (settings : DbConf) (now : ℕ) (request : Request) (w w' : Writer) → w' ≡ missed l (passed_by (kept_answer settings now request w.cache) w) → KeepsAnswer settings now request w w'
missed_keeps l settings now request w w' is = subst (λ (x : Writer). x ≡ counted_as x (passed_by (kept_answer settings now request w.cache) w)) (sym is) refl

pub lookup_kept : (a : Answering) (request : Request) (said : Inserted) (l : Loaded) (s p : Cached) (mid w : Writer) (reply : List ℕ) → IsMissed a request l s p → p.settings.enabled ≡ true → p.writer.layout.arena ≡ room_of p.settings → Inserts said l (missed l p.writer) mid → InsertsBeside said (beside_of a p.files request) mid w → reply ≡ l.answer.bytes
    → CompletesWith (lookup s.settings a.moment s.files request s.writer.cache) s.writer w reply
lookup_kept a request said l s p mid w reply m on room i b said_is =
    let same = ap (λ (x : Cached). x.settings) m.rest in
    let files = ap (λ (x : Cached). x.files) m.rest in
    let alone = alone_fresh a p.files p.writer (subst (λ (f : Content). IsFresh f a.stamp p.writer) (sym files) m.fresh) (room ∙ ap room_of (sym m.settings)) in
    let kept = missed_keeps (loaded_of a p.files request 0) a.settings a.moment request p.writer w (kept_by_insert a p.files request said l p.writer mid w (ap (λ (x : DbConf). x.enabled) m.settings ∙ on) alone m.loaded i b) in
    lookup_completes s.settings a.moment s.files request s.writer p.writer w reply m.none m.completes (subst (λ (x : DbConf). KeepsAnswer x a.moment request p.writer w) (m.settings ∙ same) kept) (answer_is a request l s p reply m said_is)

pub lookup_lone : (a : Answering) (request : Request) (l : Loaded) (s p : Cached) (reply : List ℕ) → IsMissed a request l s p → p.settings.enabled ≡ false → reply ≡ l.answer.bytes → CompletesWith (lookup s.settings a.moment s.files request s.writer.cache) s.writer p.writer reply
lookup_lone a request l s p reply m off said_is =
    let enabled = sym (ap (λ (x : Cached). x.settings.enabled) m.rest) ∙ off in
    let kept : KeepsAnswer s.settings a.moment request p.writer p.writer = sym (ap (λ (b : Bool). counted_as p.writer (passed_by (cond b (tried_with s.settings a.moment request p.writer.cache) (unchanged p.writer.cache)) p.writer)) enabled) in
    lookup_completes s.settings a.moment s.files request s.writer p.writer p.writer reply m.none m.completes kept (answer_is a request l s p reply m said_is)
