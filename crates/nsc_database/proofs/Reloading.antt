-- Entries that end to be loaded again, one after the other, and what is then inserted for them.
use Rattle.std.proofs.Common.{◌≡◌, ℕ, ◌≤◌, ◌⊎◌, inl, inr, Bool, true, false, cond, All, List, [], ◌∷◌, ◌++◌, length, Option, Some, refl, sym, ap, subst, ◌∙◌, arith}
use Rattle.nsc_base.specs.Nodes.{node_words}
use Rattle.nsc_model.specs.declared.answer.Request.{Request}
use Rattle.nsc_model.specs.declared.conf.DbConf.{DbConf}
use Rattle.nsc_model.specs.declared.record.Ending.{Ending}
use Rattle.nsc_model.specs.declared.record.Ending.TheVariants.{Expired, Replaced}
use Rattle.nsc_model.specs.declared.record.Record.{Record}
use Rattle.nsc_model.specs.declared.record.Record.TheVariants.{End, Load}
use Rattle.nsc_model.specs.Answer.{Answer}
use Rattle.nsc_model.specs.Answers.{answer_of}
use Rattle.nsc_model.specs.Entry.{Entry}
use Rattle.nsc_model.specs.History.{IsLive, IsPrefix, load_of}
use Rattle.nsc_model.specs.Machine.{last_count}
use Rattle.nsc_model.specs.Stores.{IsLoadedAgain}
use Rattle.nsc_laws.specs.Calls.{Tells}
use Rattle.nsc_shelf.specs.Shelf.{has_number}
use Rattle.nsc_writer.specs.declared.loaded.Inserted.{Inserted}
use Rattle.nsc_writer.specs.declared.loaded.Inserted.TheVariants as inserted
use Rattle.nsc_writer.specs.declared.writer.Cause.TheVariants as cause
use Rattle.nsc_pruner.specs.Due.{Due, due_cause_of, marked_by, pruned_by, pruned_one}
use Rattle.nsc_writer.specs.Loaded.{Loaded, kept_of}
use Rattle.nsc_writer.specs.Writer.{Inserts, IsAnswered, IsRefused, Writer, ending_of, without_entry}
use Rattle.nsc_pruner.proofs.Pruned.{head_of, tail_of}
use Rattle.nsc_database.specs.Holds.{HasFree, IsInserted}
use Rattle.nsc_database.specs.Rests.{IsPacked, Keeps, LoadsAgain}
use Rattle.nsc_database.specs.Ticks.{IsDue, IsPending, LoadsBut}
use Rattle.nsc_laws.proofs.LoadedAgain.{again_on, content_on, end_before, live_later, load_of_is, version_has}
use Rattle.nsc_database.proofs.Again.{but_more, but_none, but_wider}
use Rattle.nsc_database.proofs.Pruning.{all_due_on, one_leaves}
use Rattle.nsc_turns.proofs.Renewed.{leaves_inserted}
use Rattle.nsc_database.proofs.Shown.{is_inserted}

-- ---- ends

-- why one of them ends
cause_is : (now : ℕ) (d : Due) (b : Bool) → d.dropped ≡ b → ending_of (due_cause_of now d) ≡ cond b (Expired now) Replaced
cause_is now d true e = ap (λ (t : Bool). ending_of (cond t (cause.Expired now) cause.Replaced)) e
cause_is now d false e = ap (λ (t : Bool). ending_of (cond t (cause.Expired now) cause.Replaced)) e

-- one of them ended, where it was live
pend_one : (brought : Request → ℕ) (limit : Option ℕ) (now arena cycle : ℕ) (those : Request → Type 0) (d : Due) (w : Writer) → IsDue brought limit now w.seen d → Tells w.seen w.cache → LoadsBut arena cycle those w.seen
    → LoadsBut arena cycle (λ r. those r ⊎ IsPending (record d { ended = has_number d.number w.cache.entries } ∷ []) r) (pruned_one now d w).seen
pend_one brought limit now arena cycle those d w due t l = by_live (has_number d.number w.cache.entries) d.dropped refl where
  by_live : (b dropped : Bool) → d.dropped ≡ dropped → LoadsBut arena cycle (λ r. those r ⊎ IsPending (record d { ended = b } ∷ []) r) (cond b (without_entry d.number (ending_of (due_cause_of now d)) w) w).seen
  by_live false dropped e = but_wider arena cycle those (λ r. those r ⊎ IsPending (record d { ended = false } ∷ []) r) w.seen (λ r a. inl a) l
  by_live true true e = subst (λ (c : Ending). LoadsBut arena cycle (λ r. those r ⊎ IsPending (record d { ended = true } ∷ []) r) (End d.number c ∷ w.seen)) (sym (cause_is now d true e))
      (but_wider arena cycle those (λ r. those r ⊎ IsPending (record d { ended = true } ∷ []) r) (End d.number (Expired now) ∷ w.seen) (λ r a. inl a) (but_more arena cycle those (End d.number (Expired now)) w.seen tt l))
  by_live true false e = subst (λ (c : Ending). LoadsBut arena cycle (λ r. those r ⊎ IsPending (record d { ended = true } ∷ []) r) (End d.number c ∷ w.seen)) (sym (cause_is now d false e)) (by_all l) where
    is : load_of w.seen d.number ≡ Some due.entry
    is = sym (ap (load_of w.seen) due.numbered) ∙ load_of_is w.seen due.entry t.legal due.inserted

    by_all : LoadsBut arena cycle those w.seen → LoadsBut arena cycle (λ r. those r ⊎ (((true ≡ true) × (d.dropped ≡ false) × (d.request ≡ r)) ⊎ ⊥)) (End d.number Replaced ∷ w.seen)
    by_all (inr last) = inr last
    by_all (inl all) = inl (λ number before x p found. by_place number before x p.0 p.1 found) where
      by_place : (number : ℕ) (before : List Record) (x : Entry) (more : List Record) → End d.number Replaced ∷ w.seen ≡ more ++ (End number Replaced ∷ before) → load_of before number ≡ Some x
          → IsLoadedAgain arena (End number Replaced ∷ before) x.request (End d.number Replaced ∷ w.seen) ⊎ (those x.request ⊎ (((true ≡ true) × (d.dropped ≡ false) × (d.request ≡ x.request)) ⊎ ⊥))
      by_place number before x [] at found =
          let same_number : d.number ≡ number = cc in
          let same_before : w.seen ≡ before = cc in
          let entry : Some due.entry ≡ Some x = sym is ∙ (λ i. load_of (same_before i) (same_number i)) ∙ found in
          let same : due.entry ≡ x = cc in
          inr (inr (inl (refl, e, sym due.asked ∙ ap (λ (y : Entry). y.request) same)))
      by_place number before x (m ∷ more) at found =
          let rest : w.seen ≡ more ++ (End number Replaced ∷ before) = cc in
          elim (all number before x (more, rest) found) [
            | inl again ↦ inl (again_on arena (End number Replaced ∷ before) x.request w.seen (End d.number Replaced ∷ w.seen) (End d.number Replaced ∷ [], refl) again)
            | inr waits ↦ inr (inl waits)
          ]

pub all_pend : (settings : DbConf) (brought : Request → ℕ) (limit : Option ℕ) (now ticked arena cycle : ℕ) (those : Request → Type 0) (due : List Due) (w : Writer) → All (IsDue brought limit now w.seen) due → Tells w.seen w.cache → Keeps settings brought limit ticked w → LoadsBut arena cycle those w.seen
    → LoadsBut arena cycle (λ r. those r ⊎ IsPending (marked_by now due w) r) (pruned_by now due w).seen
all_pend settings brought limit now ticked arena cycle those [] w all t k l = but_wider arena cycle those (λ r. those r ⊎ ⊥) w.seen (λ r a. inl a) l
all_pend settings brought limit now ticked arena cycle those (d ∷ due) w all t k l =
    let here = head_of (IsDue brought limit now w.seen) d due all in
    let first = one_leaves settings brought limit now ticked d w here t k in
    let w1 = pruned_one now d w in
    let m : Due = record d { ended = has_number d.number w.cache.entries } in
    let wider : Request → Type 0 = λ r. those r ⊎ IsPending (m ∷ []) r in
    let rest = all_pend settings brought limit now ticked arena cycle wider due w1 (all_due_on brought limit now w.seen w1.seen due first.on (tail_of (IsDue brought limit now w.seen) d due all)) first.told first.keeps (pend_one brought limit now arena cycle those d w here t l) in
    but_wider arena cycle (λ r. wider r ⊎ IsPending (marked_by now due w1) r) (λ r. those r ⊎ IsPending (m ∷ marked_by now due w1) r) (pruned_by now due w1).seen
    (λ r a. elim a [ inl (inl before) ↦ inl before | inl (inr (inl this)) ↦ inr (inl this) | inl (inr (inr none)) ↦ absurd none | inr more ↦ inr (inr more) ])
    rest

pub pends : (settings : DbConf) (brought : Request → ℕ) (limit : Option ℕ) (now ticked arena cycle : ℕ) (due : List Due) (w : Writer) → All (IsDue brought limit now w.seen) due → Tells w.seen w.cache → Keeps settings brought limit ticked w → LoadsAgain arena cycle w.seen
    → LoadsBut arena cycle (IsPending (marked_by now due w)) (pruned_by now due w).seen
pends settings brought limit now ticked arena cycle due w all t k l =
    but_wider arena cycle (λ r. ⊥ ⊎ IsPending (marked_by now due w) r) (IsPending (marked_by now due w)) (pruned_by now due w).seen (λ r a. elim a [ inl none ↦ absurd none | inr waits ↦ waits ])
    (all_pend settings brought limit now ticked arena cycle (λ r. ⊥) due w all t k (but_none arena cycle w.seen l))

-- ---- insertions

-- one that waits no longer: it is not to be loaded again
pub pend_past : (arena cycle : ℕ) (d : Due) (due : List Due) (h : List Record) → (d.ended ≡ true → d.dropped ≡ false → ⊥) → LoadsBut arena cycle (IsPending (d ∷ due)) h → LoadsBut arena cycle (IsPending due) h
pend_past arena cycle d due h none l = but_wider arena cycle (IsPending (d ∷ due)) (IsPending due) h (λ r a. elim a [ inl this ↦ absurd (none this.0 this.1) | inr more ↦ more ]) l

-- where there was no room, the free words are known
abbrev IsFine : ℕ → Inserted → List Record → Type 0
IsFine arena (inserted.Done number) h = Unit {0}
IsFine arena (inserted.TooLarge size) h = Unit {0}
IsFine arena (inserted.Discarded noted epoch) h = Unit {0}
IsFine arena (inserted.Present number) h = Unit {0}
IsFine arena (inserted.Spent count) h = Unit {0}
IsFine arena (inserted.Full need free) h = HasFree arena free h

fine_or : (arena : ℕ) (last_cycle : Type 0) (said : Inserted) (l : Loaded) (seen after : List Record) → IsInserted arena last_cycle said l seen after → IsFine arena said after ⊎ last_cycle
fine_or arena last_cycle (inserted.Done number) l seen after i = inl tt
fine_or arena last_cycle (inserted.TooLarge size) l seen after i = inl tt
fine_or arena last_cycle (inserted.Discarded noted epoch) l seen after i = inl tt
fine_or arena last_cycle (inserted.Present number) l seen after i = inl tt
fine_or arena last_cycle (inserted.Spent count) l seen after i = inl tt
fine_or arena last_cycle (inserted.Full need free) l seen after i = i.left

-- an end that stands after the insertion stood before it
ended_first : (said : Inserted) (l : Loaded) (w w' : Writer) (number : ℕ) (before : List Record) → Inserts said l w w' → IsPrefix (End number Replaced ∷ before) w'.seen → IsPrefix (End number Replaced ∷ before) w.seen
ended_first (inserted.Done n) l w w' number before i p = end_before (Load (kept_of l w.cache.inserted).entry) w.seen number before tt (subst (λ (x : Writer). IsPrefix (End number Replaced ∷ before) x.seen) i.2 p)
ended_first (inserted.TooLarge size) l w w' number before i p = subst (λ (x : Writer). IsPrefix (End number Replaced ∷ before) x.seen) i.1 p
ended_first (inserted.Discarded noted epoch) l w w' number before i p = subst (λ (x : Writer). IsPrefix (End number Replaced ∷ before) x.seen) i.1 p
ended_first (inserted.Present n) l w w' number before i p = subst (λ (x : Writer). IsPrefix (End number Replaced ∷ before) x.seen) i.1 p
ended_first (inserted.Spent count) l w w' number before i p = subst (λ (x : Writer). IsPrefix (End number Replaced ∷ before) x.seen) i.1 p
ended_first (inserted.Full need free) l w w' number before i p = subst (λ (x : Writer). IsPrefix (End number Replaced ∷ before) x.seen) i.1 p

-- an insertion is no compaction
pub cycle_inserted : (said : Inserted) (l : Loaded) (w w' : Writer) → Inserts said l w w' → w'.cache.cycle ≡ w.cache.cycle
cycle_inserted (inserted.Done n) l w w' i = ap (λ (x : Writer). x.cache.cycle) i.2
cycle_inserted (inserted.TooLarge size) l w w' i = ap (λ (x : Writer). x.cache.cycle) i.1
cycle_inserted (inserted.Discarded noted epoch) l w w' i = ap (λ (x : Writer). x.cache.cycle) i.1
cycle_inserted (inserted.Present n) l w w' i = ap (λ (x : Writer). x.cache.cycle) i.1
cycle_inserted (inserted.Spent count) l w w' i = ap (λ (x : Writer). x.cache.cycle) i.1
cycle_inserted (inserted.Full need free) l w w' i = ap (λ (x : Writer). x.cache.cycle) i.1

-- what is known of a request whose insertion was tried
loaded_now : (arena : ℕ) (said : Inserted) (l : Loaded) (w w' : Writer) (number : ℕ) (before : List Record) (e : Entry) → arena ≤ w.layout.arena → Tells w.seen w.cache → Inserts said l w w' → IsRefused said l w → IsInserted w.layout.arena (last_count ≤ w'.cache.cycle) said l w.seen w'.seen → IsFine w.layout.arena said w'.seen → IsAnswered w.seen l → l.stamp.epoch ≡ w.cache.epoch → l.request ≡ e.request
    → IsPrefix (End number Replaced ∷ before) w.seen → IsPrefix (End number Replaced ∷ before) w'.seen → load_of before number ≡ Some e → IsPrefix w.seen w'.seen → IsLoadedAgain arena (End number Replaced ∷ before) e.request w'.seen
loaded_now arena (inserted.Done n) l w w' number before e within t i r is fine answered stamp asked p p' found on =
    inl ((kept_of l w.cache.inserted).entry, w.seen, p, subst (λ (x : Writer). IsPrefix (Load (kept_of l w.cache.inserted).entry ∷ w.seen) x.seen) (sym i.2) ([], refl), asked)
loaded_now arena (inserted.TooLarge size) l w w' number before e within t i r is fine answered stamp asked p p' found on =
    let bytes : length l.answer.bytes ≡ length (answer_of answered.files e.request).bytes = ap (λ (a : Answer). length a.bytes) answered.answer ∙ ap (λ (q : Request). length (answer_of answered.files q).bytes) asked in
    let long = r.1 in
    let size_is = r.0 in
    inr (inr (inl (answered.files, content_on answered.files w.seen w'.seen on (version_has w.seen l.stamp.version answered.files answered.version), omega arith)))
loaded_now arena (inserted.Discarded noted epoch) l w w' number before e within t i r is fine answered stamp asked p p' found on = let a = r.0 in let b = r.1 in let c = r.2 in absurd (omega arith)
loaded_now arena (inserted.Present n) l w w' number before e within t i r is fine answered stamp asked p p' found on =
    let lives : IsLive w.seen is.0 = subst (λ (x : Writer). IsLive x.seen is.0) i.1 is.1 in
    again_on arena (End number Replaced ∷ before) e.request w.seen w'.seen on (inl (live_later w.seen number before e is.0 t.legal p found lives (is.3 ∙ asked)))
loaded_now arena (inserted.Spent count) l w w' number before e within t i r is fine answered stamp asked p p' found on = let a = is.0 in let b = is.1 in inr (inl (omega arith))
loaded_now arena (inserted.Full need free) l w w' number before e within t i r is fine answered stamp asked p p' found on =
    let bytes : length l.answer.bytes ≡ length (answer_of answered.files e.request).bytes = ap (λ (a : Answer). length a.bytes) answered.answer ∙ ap (λ (q : Request). length (answer_of answered.files q).bytes) asked in
    let key : length l.request.key ≡ length e.request.key = ap (λ (q : Request). length q.key) asked in
    let words : need ≡ node_words (length e.request.key) (length (answer_of answered.files e.request).bytes) = is.needed ∙ (λ j. node_words (key j) (bytes j)) in
    let less = is.less in
    let rest = fine.rest in
    inr (inr (inr (record {
      moment = w'.seen;
      since = p';
      until = ([], refl);
      files = answered.files;
      known = content_on answered.files w.seen w'.seen on (version_has w.seen l.stamp.version answered.files answered.version);
      entries = fine.entries;
      live = fine.live;
      full = omega arith;
    })))

-- the insertion of one that waited
pub pend_inserted : (arena : ℕ) (said : Inserted) (l : Loaded) (d : Due) (due : List Due) (w w' : Writer) → arena ≤ w.layout.arena → Tells w.seen w.cache → IsPacked w → Inserts said l w w' → IsRefused said l w → IsAnswered w.seen l → l.stamp.epoch ≡ w.cache.epoch → l.request ≡ d.request
    → LoadsBut arena w.cache.cycle (IsPending (d ∷ due)) w.seen → LoadsBut arena w'.cache.cycle (IsPending due) w'.seen
pend_inserted arena said l d due w w' within t packed i r answered stamp asked waits = by_fine (fine_or w.layout.arena (last_count ≤ w'.cache.cycle) said l w.seen w'.seen is) waits where
  is : IsInserted w.layout.arena (last_count ≤ w'.cache.cycle) said l w.seen w'.seen
  is = is_inserted said l w w' t packed i r

  on : IsPrefix w.seen w'.seen
  on = (leaves_inserted said l w w' i).on

  by_fine : IsFine w.layout.arena said w'.seen ⊎ (last_count ≤ w'.cache.cycle) → LoadsBut arena w.cache.cycle (IsPending (d ∷ due)) w.seen → LoadsBut arena w'.cache.cycle (IsPending due) w'.seen
  by_fine (inr last) before = inr last
  by_fine (inl fine) (inr last) = inr (subst (λ (n : ℕ). last_count ≤ n) (sym (cycle_inserted said l w w' i)) last)
  by_fine (inl fine) (inl all) = inl (λ number before e p' found.
      let p = ended_first said l w w' number before i p' in
      elim (all number before e p found) [
        | inl again ↦ inl (again_on arena (End number Replaced ∷ before) e.request w.seen w'.seen on again)
        | inr (inl this) ↦ inl (loaded_now arena said l w w' number before e within t i r is fine answered stamp (asked ∙ this.2) p p' found on)
        | inr (inr more) ↦ inr more
      ])
