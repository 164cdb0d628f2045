-- The ends of a tick with their compaction, and what is loaded again after them.
use Rattle.std.proofs.Common.{◌≡◌, ◌∙◌, ℕ, ◌+◌, ◌≤◌, Bool, true, false, All, List, [], ◌∷◌, cond, ltb, length, map, Option, Some, None, Result, Ok, Err, refl, sym, ap, subst, arith, inl, inr}
use Rattle.std.proofs.Math.Nat.{min-le_left}
use Rattle.std.proofs.lemmas.List.{length-map}
use Rattle.std.specs.Bool.{OnFalse, OnTrue}
use Rattle.std.specs.Prelude.{IfErr, IfSome, OnErr, OnOk, ◌++◌}
use Rattle.nsc_model.specs.declared.store.Spent.{Spent}
use Rattle.std.proofs.lemmas.Bool.{false≢true}
use Rattle.nsc_model.specs.declared.conf.DbConf.{DbConf}
use Rattle.nsc_model.specs.declared.kind.Db.{Db}
use Rattle.nsc_model.specs.Answers.{answer_of}
use Rattle.nsc_model.specs.Content.{Content}
use Rattle.nsc_model.specs.declared.answer.Request.{Request}
use Rattle.nsc_model.specs.declared.record.Record.{Record}
use Rattle.nsc_model.specs.Entry.{Entry}
use Rattle.nsc_model.specs.History.{HasEnd, HasLoad, IsPrefix, Legal, PolledSince, version_in}
use Rattle.nsc_model.specs.Kinds.{database_of}
use Rattle.nsc_model.specs.Machine.{all_words, last_count, next_count, room_of, stopped, unchanged}
use Rattle.nsc_model.specs.Stores.{IsUnmoved}
use Rattle.nsc_laws.specs.Calls.{Tells}
use Rattle.nsc_writer.specs.declared.loaded.Inserted.{Inserted}
use Rattle.nsc_words.specs.declared.layout.Layout.{Layout}
use Rattle.nsc_shelf.specs.Shelf.{has_number}
use Rattle.nsc_pruner.specs.Due.{Due, IsOver, marked_by, pruned_by, pruned_one}
use Rattle.nsc_writer.specs.Loaded.{Loaded}
use Rattle.nsc_writer.specs.Former.{Former}
use Rattle.nsc_writer.specs.Writer.{Inserts, IsAnswered, IsRefused, Writer}
use Rattle.nsc_pruner.proofs.Pruned.{head_of, tail_of}
use Rattle.nsc_turns.specs.declared.answering.Answering.{Answering}
use Rattle.nsc_turns.specs.Loads.{anew_of, loaded_of}
use Rattle.nsc_turns.specs.Ticks.{Reloads, ReloadsOne, Renews, compacted_for, ended_of}
use Rattle.nsc_turns.specs.Turns.{Completes, Stops}
use Rattle.nsc_turns.proofs.Machines.{all_answered}
use Rattle.nsc_turns.proofs.Renewed.{answered_on, leaves_inserted, leaves_pruned, spends}
use Rattle.nsc_writer.proofs.Later.{end_on, polled_on, prefix_through, version_on}
use Rattle.nsc_growth.specs.Sized.{IsSized}
use Rattle.nsc_growth.proofs.Sized.{sized_low}
use Rattle.nsc_database.specs.Made.{EndsAlone}
use Rattle.nsc_database.specs.Rests.{InsertsOwn, IsAtRest, IsLoadedOf, IsPacked, Keeps, LoadsAgain, Rests}
use Rattle.nsc_database.specs.Steady.{KeepsVersion}
use Rattle.nsc_database.specs.Ticks.{AreAnew, AreOver, EndsInTime, HasNumber, IsDue, IsPending, IsRenewed, LoadsBut, compacted_by}
use Rattle.nsc_database.proofs.Again.{but_later, none_but}
use Rattle.nsc_database.proofs.Invalidations.{is_unmoved}
use Rattle.nsc_database.proofs.Ended.{keeps_compacted, packed_compacted, packed_spent}
use Rattle.nsc_database.proofs.Gained.{none_pruned}
use Rattle.nsc_laws.proofs.Reloads.{replaced_on}
use Rattle.nsc_database.proofs.Pruning.{all_cons, all_count, all_leave}
use Rattle.nsc_database.proofs.Reloading.{pend_inserted, pend_past, pends}
use Rattle.nsc_database.proofs.Rests.{rests_inserted, rests_same, rests_through}
use Rattle.nsc_database.proofs.Steady.{keeps_through, still_kept}

-- what is known of the writer after them
pub record Swept (settings : DbConf) (brought : Request → ℕ) (limit : Option ℕ) (now ticked : ℕ) (due : List Due) (w w' : Writer) : Type 0 where
  pub legal : Legal w'.seen
  pub on : IsPrefix w.seen w'.seen
  pub table : w'.table ≡ w.table
  pub layout : w'.layout ≡ w.layout
  pub slide : w'.slide ≡ w.slide
  pub keeps : Keeps settings brought limit ticked w'
  pub packed : IsPacked w'
  pub gone : (n : ℕ) → HasNumber due n → HasEnd w'.seen n
  pub renewed : All (IsRenewed brought w'.seen) (marked_by now due w)
  pub epoch : w'.cache.epoch ≡ w.cache.epoch
  pub waits : (arena : ℕ) → LoadsAgain arena w.cache.cycle w.seen → LoadsBut arena w'.cache.cycle (IsPending (marked_by now due w)) w'.seen
  pub version : KeepsVersion w.cache w'.cache
  pub loads : (e : Entry) → HasLoad w'.seen e → HasLoad w.seen e

-- what waits after the ends
waits_of : (settings : DbConf) (brought : Request → ℕ) (limit : Option ℕ) (now ticked : ℕ) (due : List Due) (w : Writer) → All (IsDue brought limit now w.seen) due → Tells w.seen w.cache → Keeps settings brought limit ticked w → (pruned_by now due w).cache.cycle ≡ w.cache.cycle
    → (arena : ℕ) → LoadsAgain arena w.cache.cycle w.seen → LoadsBut arena (pruned_by now due w).cache.cycle (IsPending (marked_by now due w)) (pruned_by now due w).seen
waits_of settings brought limit now ticked due w all t k cycle arena again =
    subst (λ (n : ℕ). LoadsBut arena n (IsPending (marked_by now due w)) (pruned_by now due w).seen) (sym cycle) (pends settings brought limit now ticked arena w.cache.cycle due w all t k again)

-- nothing ended, and nothing was compacted
swept_none : (settings : DbConf) (brought : Request → ℕ) (limit : Option ℕ) (now ticked : ℕ) (due : List Due) (w : Writer) → All (IsDue brought limit now w.seen) due → Tells w.seen w.cache → Keeps settings brought limit ticked w → IsPacked w → ended_of (marked_by now due w) ≡ [] → Swept settings brought limit now ticked due w (pruned_by now due w)
swept_none settings brought limit now ticked due w all t k p none =
    let l = all_leave settings brought limit now ticked due w all t k in
    let c = all_count settings brought limit now ticked due w all t k in
    let same = c.same (ap (λ (ds : List Due). length ds) none) in
    let v = leaves_pruned now due w in
    record { legal = l.told.legal; on = v.on; table = v.table; layout = v.layout; slide = v.slide; keeps = l.keeps; packed = subst IsPacked (sym same) p; gone = l.gone; renewed = c.renewed; epoch = v.epoch; waits = waits_of settings brought limit now ticked due w all t k l.cycle; version = record { version = v.version; sources = v.sources }; loads = l.loads }

-- some ended, and there was a compaction
swept_some : (settings : DbConf) (brought : Request → ℕ) (limit : Option ℕ) (now ticked : ℕ) (due : List Due) (w : Writer) → All (IsDue brought limit now w.seen) due → Tells w.seen w.cache → Keeps settings brought limit ticked w → Swept settings brought limit now ticked due w (compacted_by (pruned_by now due w))
swept_some settings brought limit now ticked due w all t k =
    let l = all_leave settings brought limit now ticked due w all t k in
    let c = all_count settings brought limit now ticked due w all t k in
    let w1 = pruned_by now due w in
    let v = leaves_pruned now due w in
    record {
      legal = l.told.legal;
      on = v.on;
      table = v.table;
      layout = v.layout;
      slide = v.slide;
      keeps = keeps_compacted settings brought limit ticked (all_words w1.cache.entries) (w1.cache.cycle + 2) w1 (compacted_by w1) refl l.keeps;
      packed = packed_compacted w1 (compacted_by w1) refl;
      gone = l.gone;
      renewed = c.renewed;
      epoch = v.epoch;
      waits = λ arena again. but_later arena w1.cache.cycle (w1.cache.cycle + 2) (IsPending (marked_by now due w)) w1.seen (omega arith) (waits_of settings brought limit now ticked due w all t k l.cycle arena again);
      version = record { version = v.version; sources = v.sources };
      loads = l.loads;
    }

pub swept_leaves : (settings : DbConf) (brought : Request → ℕ) (limit : Option ℕ) (now ticked : ℕ) (due : List Due) (w w' : Writer) → All (IsDue brought limit now w.seen) due → Tells w.seen w.cache → Keeps settings brought limit ticked w → IsPacked w → Completes (compacted_for (ended_of (marked_by now due w)) (pruned_by now due w).cache) (pruned_by now due w) w' → Swept settings brought limit now ticked due w w'
swept_leaves settings brought limit now ticked due w w' all t k p s = by_ended (ended_of (marked_by now due w)) refl s where
  w1 : Writer
  w1 = pruned_by now due w

  by_cycle : (b : Bool) → Completes (cond b (Ok (unchanged (record w1.cache { cycle = w1.cache.cycle + 2; used = all_words w1.cache.entries }))) (Err (stopped w1.cache))) w1 w' → Swept settings brought limit now ticked due w w'
  by_cycle true q = subst (Swept settings brought limit now ticked due w) (sym q) (swept_some settings brought limit now ticked due w all t k)
  by_cycle false q = absurd q

  by_ended : (ended : List Due) → ended_of (marked_by now due w) ≡ ended → Completes (compacted_for ended w1.cache) w1 w' → Swept settings brought limit now ticked due w w'
  by_ended [] none q = subst (Swept settings brought limit now ticked due w) (sym q) (swept_none settings brought limit now ticked due w all t k p none)
  by_ended (d ∷ ended) some q = by_cycle (ltb w1.cache.cycle last_count) q

-- where the count of the beginnings and the ends of slides stands at its end
pub swept_spent : (settings : DbConf) (brought : Request → ℕ) (limit : Option ℕ) (now ticked : ℕ) (due : List Due) (w w' : Writer) → All (IsDue brought limit now w.seen) due → Tells w.seen w.cache → Keeps settings brought limit ticked w → w' ≡ pruned_by now due w → last_count ≤ w'.cache.cycle → Swept settings brought limit now ticked due w w'
swept_spent settings brought limit now ticked due w w' all t k is high =
    let l = all_leave settings brought limit now ticked due w all t k in
    let c = all_count settings brought limit now ticked due w all t k in
    let w1 = pruned_by now due w in
    let v = leaves_pruned now due w in
    let high1 : last_count ≤ w1.cache.cycle = subst (λ (x : Writer). last_count ≤ x.cache.cycle) is high in
    subst (Swept settings brought limit now ticked due w) (sym is)
    (record { legal = l.told.legal; on = v.on; table = v.table; layout = v.layout; slide = v.slide; keeps = l.keeps; packed = packed_spent w1 w1 refl high1; gone = l.gone; renewed = c.renewed; epoch = v.epoch; waits = waits_of settings brought limit now ticked due w all t k l.cycle; version = record { version = v.version; sources = v.sources }; loads = l.loads })

pub all_over : (brought : Request → ℕ) (limit : Option ℕ) (now : ℕ) (h : List Record) (due : List Due) → All (IsDue brought limit now h) due → All (IsOver h now) due
all_over brought limit now h due all i d low = let x = all i d low in (x.entry, x.inserted, x.numbered, x.over)

-- ---- what is loaded again

pub anew_on : (a b : List Record) (epoch : ℕ) (due : List Due) (loads : List (Option Loaded)) → Legal a → Legal b → IsPrefix a b → AreAnew a epoch due loads → AreAnew b epoch due loads
anew_on a b epoch due loads la lb p n = record {
  answering = n.answering;
  files = n.files;
  version = version_on a b n.answering.stamp.version n.files lb la p n.version;
  since = polled_on a b n.answering.stamp.version n.answering.stamp.epoch p n.since;
  stamped = n.stamped;
  soon = n.soon;
  made = n.made;
}

pub answered_anew : (h : List Record) (epoch : ℕ) (due : List Due) (loads : List (Option Loaded)) → AreAnew h epoch due loads → All (λ load. IfSome load (IsAnswered h)) loads
answered_anew h epoch due loads n = subst (λ (ls : List (Option Loaded)). All (λ load. IfSome load (IsAnswered h)) ls) (sym n.made) (all_answered n.answering n.files h due n.version n.since)

pub as_many : (h : List Record) (epoch : ℕ) (due : List Due) (loads : List (Option Loaded)) → AreAnew h epoch due loads → length loads ≤ length due
as_many h epoch due loads n = let same : length loads ≡ length (map (anew_of n.answering n.files) due) = ap (λ (ls : List (Option Loaded)). length ls) n.made in omega (arith, length-map due (anew_of n.answering n.files))

-- the marks make no difference
anew_marked : (a : Answering) (files : Content) (now : ℕ) (due : List Due) (w : Writer) → map (anew_of a files) (marked_by now due w) ≡ map (anew_of a files) due
anew_marked a files now [] w = refl
anew_marked a files now (d ∷ due) w = ap (λ (l : List (Option Loaded)). anew_of a files d ∷ l) (anew_marked a files now due (pruned_one now d w))

-- the lock's writer after it
pub at_rest_swept : {settings : DbConf} {brought : Request → ℕ} {limit : Option ℕ} {held : Option Content} {which : Db} {ticked : ℕ} (left : List Former) {now : ℕ} {due : List Due} (w w' w'' : Writer) → Swept settings brought limit now ticked due w w' → Rests which brought w' w'' → LoadsAgain (room_of settings) w''.cache.cycle w''.seen → IsAtRest settings brought limit held which ticked left w → IsAtRest settings brought limit held which ticked left w''
at_rest_swept {settings} {brought} {limit} {held} {which} {ticked} left {now} {due} w w' w'' s r again st = (
  r.keeps settings limit ticked s.keeps,
  r.packed s.packed,
  λ files e. still_kept files which w.cache w''.cache (keeps_through w.cache w'.cache w''.cache s.version r.version) (st.2 files e),
  again,
  r.slide ∙ s.slide ∙ st.4,
  subst (IsSized settings) (sym (r.layout ∙ s.layout)) st.5,
  st.6,
  λ e a. elim (r.inserts e a) [ inl old ↦ st.7 e (s.loads e old) | inr own ↦ own ],
)

next_low : (n : ℕ) → next_count n ≤ n + 1
next_low n = min-le_left (n + 1) last_count

-- ---- of which database they are

-- each request is of this database
abbrev AreOf : Db → List Due → Type 0
AreOf which due = All (λ (d : Due). database_of d.request.kind ≡ which) due

-- as every entry was that was inserted
due_of : (which : Db) (brought : Request → ℕ) (limit : Option ℕ) (now : ℕ) (h : List Record) (due : List Due) → All (IsDue brought limit now h) due → InsertsOwn which h → AreOf which due
due_of which brought limit now h due all own i d low = let x = all i d low in subst (λ (r : Request). database_of r.kind ≡ which) x.asked (own x.entry x.inserted).of_database

marked_of : (which : Db) (now : ℕ) (due : List Due) (w : Writer) → AreOf which due → AreOf which (marked_by now due w)
marked_of which now [] w own = own
marked_of which now (d ∷ due) w own =
    let P : Due → Type 0 = λ x. database_of x.request.kind ≡ which in
    all_cons P (record d { ended = has_number d.number w.cache.entries }) (marked_by now due (pruned_one now d w)) (head_of P d due own) (marked_of which now due (pruned_one now d w) (tail_of P d due own))

-- ---- what waits, one after the other

-- the writer goes on, keeps the count of invalidations, and these wait still
abbrev Waits : Db → (Request → ℕ) → ℕ → List Due → Writer → Writer → Type 0
Waits which brought arena due w0 w = Rests which brought w0 w × (w.cache.epoch ≡ w0.cache.epoch) × LoadsBut arena w.cache.cycle (IsPending due) w.seen

-- one of them, whose answer was made over the history of the first writer
one_waits : (which : Db) (brought : Request → ℕ) (arena : ℕ) (a : Answering) (files : Content) (d : Due) (due : List Due) (w0 w mid : Writer) → IsLoadedOf which (loaded_of a files d.request (next_count d.reloads)) → arena ≤ w0.layout.arena → Legal w0.seen → IsPacked w0 → IsRenewed brought w0.seen d → IsAnswered w0.seen (loaded_of a files d.request (next_count d.reloads)) → a.stamp.epoch ≡ w0.cache.epoch → Waits which brought arena (d ∷ due) w0 w → ReloadsOne d (anew_of a files d) w mid → Waits which brought arena due w0 mid
one_waits which brought arena a files d due w0 w mid own within legal packed renewed answered stamp waits one = by_drop d.dropped refl one where
  l : Loaded
  l = loaded_of a files d.request (next_count d.reloads)

  passed : (d.ended ≡ true → d.dropped ≡ false → ⊥) → mid ≡ w → Waits which brought arena due w0 mid
  passed none same = subst (Waits which brought arena due w0) (sym same) (waits.0, waits.1, pend_past arena w.cache.cycle d due w.seen none waits.2)

  by_ended : (b : Bool) → d.ended ≡ b → d.dropped ≡ false → OnTrue b ((said : Inserted) × Inserts said l w mid × IsRefused said l w × Tells w.seen w.cache) × OnFalse b (mid ≡ w) → Waits which brought arena due w0 mid
  by_ended true e kept ((said, i, why, told), none) =
      let same : w.layout.arena ≡ w0.layout.arena = ap (λ (x : Layout). x.arena) waits.0.layout in
      let low = renewed e kept in
      let few = next_low d.reloads in
      let rise = replaced_on w0.seen w.seen d.request waits.0.on in (
        rests_through w0 w mid waits.0 (rests_inserted said l w mid i (omega arith) own),
        (leaves_inserted said l w mid i).epoch ∙ waits.1,
        pend_inserted arena said l d due w mid (omega arith) told (waits.0.packed packed) i why (answered_on w0.seen w.seen l told.legal legal waits.0.on answered) (stamp ∙ sym waits.1) refl waits.2,
      )
  by_ended false e kept (none, same) = passed (λ ended k. false≢true (sym e ∙ ended)) same

  by_drop : (b : Bool) → d.dropped ≡ b → ReloadsOne d (cond b None (Some l)) w mid → Waits which brought arena due w0 mid
  by_drop true e same = passed (λ ended kept. false≢true (sym kept ∙ e)) same
  by_drop false e r = by_ended d.ended refl e r

all_reloaded : (which : Db) (brought : Request → ℕ) (arena : ℕ) (a : Answering) (files : Content) (due : List Due) (w0 w w' : Writer) → AreOf which due → EndsInTime a → arena ≤ w0.layout.arena → Legal w0.seen → IsPacked w0 → All (IsRenewed brought w0.seen) due → version_in w0.seen a.stamp.version ≡ Some files → PolledSince w0.seen a.stamp.version a.stamp.epoch → a.stamp.epoch ≡ w0.cache.epoch → Waits which brought arena due w0 w → Reloads due (map (anew_of a files) due) w w' → Rests which brought w0 w' × LoadsAgain arena w'.cache.cycle w'.seen
all_reloaded which brought arena a files [] w0 w w' own soon within legal packed renewed version since stamp waits same =
    subst (λ (x : Writer). Rests which brought w0 x × LoadsAgain arena x.cache.cycle x.seen) (sym same) (waits.0, none_but arena w.cache.cycle (IsPending []) w.seen (λ r x. x) waits.2)
all_reloaded which brought arena a files (d ∷ due) w0 w w' own soon within legal packed renewed version since stamp waits r =
    let answered : IsAnswered w0.seen (loaded_of a files d.request (next_count d.reloads)) = record { files = files; version = version; answer = refl; polled = since } in
    let one = one_waits which brought arena a files d due w0 w r.0 (head_of (λ (x : Due). database_of x.request.kind ≡ which) d due own, soon (answer_of files d.request)) within legal packed (head_of (IsRenewed brought w0.seen) d due renewed) answered stamp waits r.1 in
    all_reloaded which brought arena a files due w0 r.0 w' (tail_of (λ (x : Due). database_of x.request.kind ≡ which) d due own) soon within legal packed (tail_of (IsRenewed brought w0.seen) d due renewed) version since stamp one r.2

-- a renewal of a tick, whose lock is free after it
renewed_rests : (which : Db) (arena : ℕ) (settings : DbConf) (brought : Request → ℕ) (limit : Option ℕ) (now ticked epoch : ℕ) (due : List Due) (loads : List (Option Loaded)) (w swept w' : Writer) (s : Swept settings brought limit now ticked due w swept) → AreOf which due → arena ≤ w.layout.arena → Legal w.seen → LoadsAgain arena w.cache.cycle w.seen → AreAnew w.seen epoch due loads → w.cache.epoch ≡ epoch → Reloads (marked_by now due w) loads swept w'
    → Rests which brought swept w' × LoadsAgain arena w'.cache.cycle w'.seen
renewed_rests which arena settings brought limit now ticked epoch due loads w swept w' s own within legal again anew same r =
    let n = anew_on w.seen swept.seen epoch due loads legal s.legal s.on anew in
    let made = n.made ∙ sym (anew_marked n.answering n.files now due w) in
    all_reloaded which brought arena n.answering n.files (marked_by now due w) swept swept w' (marked_of which now due w own) n.soon (subst (λ (x : Layout). arena ≤ x.arena) (sym s.layout) within) s.legal s.packed s.renewed n.version n.since (n.stamped ∙ sym (s.epoch ∙ same)) (rests_same swept swept refl, refl, s.waits arena again) (subst (λ (ls : List (Option Loaded)). Reloads (marked_by now due w) ls swept w') made r)

-- what a hold for it leaves
pub record Renewal (settings : DbConf) (brought : Request → ℕ) (limit : Option ℕ) (held : Option Content) (which : Db) (ticked : ℕ) (left : List Former) (epoch : ℕ) (due : List Due) (w w' : Writer) (r : Result (Unit {0}) Spent) : Type 0 where
  pub rest : IsAtRest settings brought limit held which ticked left w'
  pub table : w'.table ≡ w.table
  pub layout : w'.layout ≡ w.layout
  pub over : OnOk r (AreOver epoch w'.seen due)
  pub spent : IfErr r (λ s. IsUnmoved w'.seen (last_count ≤ w'.cache.cycle) s.count (AreOver epoch w'.seen due))
  pub added : List Record
  pub gains : w'.seen ≡ added ++ w.seen
  pub alone : OnErr r (EndsAlone w' added)

pub renewal : {settings : DbConf} {brought : Request → ℕ} {limit : Option ℕ} {held : Option Content} {which : Db} {ticked : ℕ} (left : List Former) (now epoch : ℕ) (due : List Due) (loads : List (Option Loaded)) (w w' : Writer) (r : Result (Unit {0}) Spent) → All (IsDue brought limit now w.seen) due → AreAnew w.seen epoch due loads → w.cache.epoch ≡ epoch
    → Tells w.seen w.cache → OnOk r (Renews now due loads w w') → IfErr r (λ s. Stops (compacted_for (ended_of (marked_by now due w)) (pruned_by now due w).cache) s.count (pruned_by now due w) w') → IsAtRest settings brought limit held which ticked left w → Renewal settings brought limit held which ticked left epoch due w w' r
renewal {settings} {brought} {limit} {held} {which} {ticked} left now epoch due loads w w' (Ok done) all anew same t r stops rest =
    let s = swept_leaves settings brought limit now ticked due w r.0 all t rest.0 rest.1 r.1 in
    let l = renewed_rests which (room_of settings) settings brought limit now ticked epoch due loads w r.0 w' s (due_of which brought limit now w.seen due all rest.7) (sized_low settings w.layout rest.5) t.legal rest.3 anew same r.2 in
    record {
      rest = at_rest_swept left w r.0 w' s l.0 l.1 rest;
      table = l.0.table ∙ s.table;
      layout = l.0.layout ∙ s.layout;
      over = inr (λ n has. end_on r.0.seen w'.seen n l.0.on (s.gone n has));
      spent = tt;
      added = (prefix_through w.seen r.0.seen w'.seen s.on l.0.on).0;
      gains = (prefix_through w.seen r.0.seen w'.seen s.on l.0.on).1;
      alone = tt;
    }
renewal {settings} {brought} {limit} {held} {which} {ticked} left now epoch due loads w w' (Err spent) all anew same t r stops rest =
    let e = spends (ended_of (marked_by now due w)) spent.count (pruned_by now due w) w' stops in
    let s = swept_spent settings brought limit now ticked due w w' all t rest.0 e.same e.high in
    record {
      rest = at_rest_swept left w w' w' s (rests_same w' w' refl) (inr e.high) rest;
      table = s.table;
      layout = s.layout;
      over = tt;
      spent = is_unmoved w' spent.count (AreOver epoch w'.seen due) e.high e.at (inr s.gone);
      added = s.on.0;
      gains = s.on.1;
      alone = (e.high, none_pruned now due w w' e.same s.on);
    }
