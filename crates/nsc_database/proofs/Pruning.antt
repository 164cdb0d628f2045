-- The ends of a tick, one after the other.
use Rattle.std.proofs.Common.{◌≡◌, ℕ, zero, suc, ◌+◌, ◌≤◌, ◌⊎◌, Bool, true, false, cond, All, List, [], ◌∷◌, get_or, length, Option, Some, refl, sym, ap, subst, ◌∙◌, arith, inl, inr}
use Rattle.std.specs.Bool.{OnTrue}
use Rattle.nsc_model.specs.declared.answer.Request.{Request}
use Rattle.nsc_model.specs.declared.conf.DbConf.{DbConf}
use Rattle.nsc_model.specs.declared.record.Ending.{Ending}
use Rattle.nsc_model.specs.declared.record.Record.{Record}
use Rattle.nsc_model.specs.declared.record.Record.TheVariants.{End}
use Rattle.nsc_model.specs.Entry.{Entry}
use Rattle.nsc_model.specs.History.{Allows, HasEnd, HasLoad, IsLive, IsPrefix, Legal, load_of}
use Rattle.nsc_model.specs.Kinds.{is_request}
use Rattle.nsc_model.specs.Reloads.{IsDropped, one_of, replaced}
use Rattle.nsc_laws.specs.Calls.{Tells}
use Rattle.nsc_laws.proofs.Requests.{request_same}
use Rattle.nsc_pruner.specs.Due.{Due, due_cause_of, marked_by, pruned_by, pruned_one}
use Rattle.nsc_shelf.specs.Shelf.{has_number}
use Rattle.nsc_writer.specs.Writer.{Writer, ending_of, without_entry}
use Rattle.nsc_writer.proofs.Later.{end_on, load_on, prefix_through}
use Rattle.nsc_pruner.proofs.Pruned.{head_of, over_allows, tail_of}
use Rattle.nsc_writer.proofs.Told.{ended_tells}
use Rattle.nsc_database.specs.Rests.{Keeps}
use Rattle.nsc_turns.specs.Ticks.{ended_of}
use Rattle.nsc_database.specs.Ticks.{HasNumber, IsDue, IsRenewed}
use Rattle.nsc_laws.proofs.LoadedAgain.{load_of_is}
use Rattle.nsc_database.proofs.Ended.{IsRight, gone_ended, keeps_ended}
use Rattle.nsc_laws.proofs.Reloads.{replaced_on}

-- what is due stays so as the history goes on
due_on : (brought : Request → ℕ) (limit : Option ℕ) (now : ℕ) (a b : List Record) (d : Due) → IsPrefix a b → IsDue brought limit now a d → IsDue brought limit now b d
due_on brought limit now a b d p due = record {
  entry = due.entry;
  inserted = load_on a b due.entry p due.inserted;
  numbered = due.numbered;
  asked = due.asked;
  over = due.over;
  counted = let low = due.counted in let rise = replaced_on a b d.request p in omega arith;
  dropped = due.dropped;
}

pub all_due_on : (brought : Request → ℕ) (limit : Option ℕ) (now : ℕ) (a b : List Record) (due : List Due) → IsPrefix a b → All (IsDue brought limit now a) due → All (IsDue brought limit now b) due
all_due_on brought limit now a b due p all i d low = due_on brought limit now a b (get_or due i d) p (all i d low)

-- what the ends of some leave
pub record Leaves (settings : DbConf) (brought : Request → ℕ) (limit : Option ℕ) (ticked : ℕ) (due : List Due) (w w' : Writer) : Type 0 where
  pub keeps : Keeps settings brought limit ticked w'
  pub told : Tells w'.seen w'.cache
  pub on : IsPrefix w.seen w'.seen
  pub cycle : w'.cache.cycle ≡ w.cache.cycle
  pub used : w'.cache.used ≡ w.cache.used
  pub gone : (n : ℕ) → HasNumber due n → HasEnd w'.seen n
  pub loads : (e : Entry) → HasLoad w'.seen e → HasLoad w.seen e

-- the cause of an end is right
right_cause : (brought : Request → ℕ) (limit : Option ℕ) (now : ℕ) (h : List Record) (d : Due) → Legal h → IsDue brought limit now h d → IsRight brought limit h d.number (ending_of (due_cause_of now d))
right_cause brought limit now h d legal due = by_drop d.dropped refl due.dropped where
  is : load_of h d.number ≡ Some due.entry
  is = sym (ap (load_of h) due.numbered) ∙ load_of_is h due.entry legal due.inserted

  reached : (due.entry.answer.not_found ≡ true) ⊎ ((most : ℕ) × (limit ≡ Some most) × (most ≤ d.reloads)) → IsDropped brought limit h (Some due.entry)
  reached (inl absent) = inl absent
  reached (inr (most, limit_is, low)) = inr (
    most,
    limit_is,
    let count = due.counted in let same : brought due.entry.request + replaced h due.entry.request ≡ brought d.request + replaced h d.request = ap (λ (r : Request). brought r + replaced h r) due.asked in omega arith,
  )

  by_drop : (b : Bool) → d.dropped ≡ b → OnTrue b ((due.entry.answer.not_found ≡ true) ⊎ ((most : ℕ) × (limit ≡ Some most) × (most ≤ d.reloads))) → IsRight brought limit h d.number (ending_of (due_cause_of now d))
  by_drop true e dropped = rw e (subst (IsDropped brought limit h) (sym is) (reached dropped))
  by_drop false e dropped = rw e tt

-- one more entry of its request ended to be reloaded
counts_one : (brought : Request → ℕ) (limit : Option ℕ) (now : ℕ) (h : List Record) (d : Due) → Legal h → IsDue brought limit now h d → d.dropped ≡ false → d.reloads + 1 ≤ brought d.request + replaced (End d.number (ending_of (due_cause_of now d)) ∷ h) d.request
counts_one brought limit now h d legal due kept =
    let is : load_of h d.number ≡ Some due.entry = sym (ap (load_of h) due.numbered) ∙ load_of_is h due.entry legal due.inserted in
    let one : one_of d.request (load_of h d.number) ≡ 1 = ap (one_of d.request) is ∙ ap (λ (b : Bool). cond b 1 0) (ap (is_request d.request) due.asked ∙ request_same d.request) in
    let count = due.counted in
    rw kept (omega arith)

due_over : (brought : Request → ℕ) (limit : Option ℕ) (now : ℕ) (h : List Record) (d : Due) → Legal h → IsDue brought limit now h d → (e : Entry) → IsLive h e → e.number ≡ d.number → Allows (ending_of (due_cause_of now d)) e
due_over brought limit now h d legal due e live number = over_allows h now d legal (due.entry, due.inserted, due.numbered, due.over) e live number

-- one of them ended, where it was live
pub one_leaves : (settings : DbConf) (brought : Request → ℕ) (limit : Option ℕ) (now ticked : ℕ) (d : Due) (w : Writer) → IsDue brought limit now w.seen d → Tells w.seen w.cache → Keeps settings brought limit ticked w → Leaves settings brought limit ticked (d ∷ []) w (pruned_one now d w)
one_leaves settings brought limit now ticked d w due t k = by_live (has_number d.number w.cache.entries) refl where
  cause : Ending
  cause = ending_of (due_cause_of now d)

  by_live : (b : Bool) → has_number d.number w.cache.entries ≡ b → Leaves settings brought limit ticked (d ∷ []) w (cond b (without_entry d.number cause w) w)
  by_live true there = record {
    keeps = keeps_ended settings brought limit ticked d.number cause w (right_cause brought limit now w.seen d t.legal due) k;
    told = ended_tells w.seen w.cache d.number cause t there (due_over brought limit now w.seen d t.legal due);
    on = (End d.number cause ∷ [], refl);
    cycle = refl;
    used = refl;
    gone = λ n has. elim has [ inl same ↦ inl same | inr none ↦ absurd none ];
    loads = λ e a. a;
  }
  by_live false there = record {
    keeps = k;
    told = t;
    on = ([], refl);
    cycle = refl;
    used = refl;
    gone = λ n has. elim has [ inl same ↦ subst (HasEnd w.seen) same (gone_ended w.seen w.cache d.number due.entry t due.inserted due.numbered there) | inr none ↦ absurd none ];
    loads = λ e a. a;
  }

pub all_leave : (settings : DbConf) (brought : Request → ℕ) (limit : Option ℕ) (now ticked : ℕ) (due : List Due) (w : Writer) → All (IsDue brought limit now w.seen) due → Tells w.seen w.cache → Keeps settings brought limit ticked w → Leaves settings brought limit ticked due w (pruned_by now due w)
all_leave settings brought limit now ticked [] w all t k = record { keeps = k; told = t; on = ([], refl); cycle = refl; used = refl; gone = λ n has. absurd has; loads = λ e a. a }
all_leave settings brought limit now ticked (d ∷ due) w all t k =
    let first = one_leaves settings brought limit now ticked d w (head_of (IsDue brought limit now w.seen) d due all) t k in
    let w1 = pruned_one now d w in
    let rest = all_leave settings brought limit now ticked due w1 (all_due_on brought limit now w.seen w1.seen due first.on (tail_of (IsDue brought limit now w.seen) d due all)) first.told first.keeps in
    record {
      keeps = rest.keeps;
      told = rest.told;
      on = prefix_through w.seen w1.seen (pruned_by now due w1).seen first.on rest.on;
      cycle = rest.cycle ∙ first.cycle;
      used = rest.used ∙ first.used;
      gone = λ n has. elim has [ inl same ↦ end_on w1.seen (pruned_by now due w1).seen n rest.on (first.gone n (inl same)) | inr more ↦ rest.gone n more ];
      loads = λ e a. first.loads e (rest.loads e a);
    }

renewed_on : (brought : Request → ℕ) (a b : List Record) (d : Due) → IsPrefix a b → IsRenewed brought a d → IsRenewed brought b d
renewed_on brought a b d p r ended kept = let low = r ended kept in let rise = replaced_on a b d.request p in omega arith

pub all_cons : {A : Type 0} (P : A → Type 0) (x : A) (xs : List A) → P x → All P xs → All P (x ∷ xs)
all_cons P x xs first rest zero d low = first
all_cons P x xs first rest (suc i) d low = rest i d (omega arith)

-- what is marked as ended is counted; where none is, nothing changed
pub record Counts (brought : Request → ℕ) (marked : List Due) (w w' : Writer) : Type 0 where
  pub renewed : All (IsRenewed brought w'.seen) marked
  pub same : length (ended_of marked) ≡ 0 → w' ≡ w

pub all_count : (settings : DbConf) (brought : Request → ℕ) (limit : Option ℕ) (now ticked : ℕ) (due : List Due) (w : Writer) → All (IsDue brought limit now w.seen) due → Tells w.seen w.cache → Keeps settings brought limit ticked w → Counts brought (marked_by now due w) w (pruned_by now due w)
all_count settings brought limit now ticked [] w all t k = record { renewed = λ i d low. absurd (omega arith); same = λ none. refl }
all_count settings brought limit now ticked (d ∷ due) w all t k =
    by_live (has_number d.number w.cache.entries) refl (λ w1 on told keeps. all_count settings brought limit now ticked due w1 (all_due_on brought limit now w.seen w1.seen due on (tail_of (IsDue brought limit now w.seen) d due all)) told keeps)
    (λ w1 on told keeps. (all_leave settings brought limit now ticked due w1 (all_due_on brought limit now w.seen w1.seen due on (tail_of (IsDue brought limit now w.seen) d due all)) told keeps).on) where
      by_live : (b : Bool) → has_number d.number w.cache.entries ≡ b → ((w1 : Writer) → IsPrefix w.seen w1.seen → Tells w1.seen w1.cache → Keeps settings brought limit ticked w1 → Counts brought (marked_by now due w1) w1 (pruned_by now due w1))
          → ((w1 : Writer) → IsPrefix w.seen w1.seen → Tells w1.seen w1.cache → Keeps settings brought limit ticked w1 → IsPrefix w1.seen (pruned_by now due w1).seen)
          → Counts brought (record d { ended = b } ∷ marked_by now due (cond b (without_entry d.number (ending_of (due_cause_of now d)) w) w)) w (pruned_by now due (cond b (without_entry d.number (ending_of (due_cause_of now d)) w) w))
      by_live true there counted after =
          let w1 = without_entry d.number (ending_of (due_cause_of now d)) w in
          let due_here = head_of (IsDue brought limit now w.seen) d due all in
          let told = ended_tells w.seen w.cache d.number (ending_of (due_cause_of now d)) t there (due_over brought limit now w.seen d t.legal due_here) in
          let keeps = keeps_ended settings brought limit ticked d.number (ending_of (due_cause_of now d)) w (right_cause brought limit now w.seen d t.legal due_here) k in
          let on : IsPrefix w.seen w1.seen = (End d.number (ending_of (due_cause_of now d)) ∷ [], refl) in
          let rest = counted w1 on told keeps in
          record {
            renewed = all_cons (IsRenewed brought (pruned_by now due w1).seen) (record d { ended = true }) (marked_by now due w1)
                (renewed_on brought w1.seen (pruned_by now due w1).seen (record d { ended = true }) (after w1 on told keeps) (λ marked kept. counts_one brought limit now w.seen d t.legal due_here kept)) rest.renewed;
            same = λ none. absurd (omega arith);
          }
      by_live false there counted after =
          let rest = counted w ([], refl) t k in
          record {
            renewed = all_cons (IsRenewed brought (pruned_by now due w).seen) (record d { ended = false }) (marked_by now due w) (λ marked kept. absurd cc) rest.renewed;
            same = rest.same;
          }
