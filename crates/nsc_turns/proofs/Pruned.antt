-- The ends of all entries that are due are the machine's.
use Rattle.std.proofs.Common.{◌≡◌, ℕ, ◌<◌, ◌≢◌, inl, inr, Bool, true, false, cond, eqb, not, ◌||◌, List, [], ◌∷◌, ◌++◌, append_assoc, map, Option, refl, sym, ap, subst, ◌∙◌, arith}
use Rattle.std.proofs.lemmas.Bool.{eq-eqb, eqb-true}
use Rattle.nsc_model.specs.declared.record.Ending.TheVariants.{Expired, Replaced}
use Rattle.nsc_model.specs.declared.record.Record.{Record}
use Rattle.nsc_model.specs.declared.record.Record.TheVariants.{End}
use Rattle.nsc_model.specs.Entry.{Entry}
use Rattle.nsc_model.specs.Live.{HasEntry, Rise}
use Rattle.nsc_model.specs.Machine.{Kept, due_cause, due_ended, due_of, ends_of, is_due, is_dropped, others_of}
use Rattle.nsc_laws.specs.Calls.{entries_of}
use Rattle.nsc_laws.proofs.CoreLawRecords.{first_least, rise_tail}
use Rattle.nsc_laws.proofs.MachineLawEnds.{ends_after}
use Rattle.nsc_pruner.specs.Due.{Due, due_cause_of, due_from, marked_by, pruned_by, pruned_one}
use Rattle.nsc_shelf.specs.Shelf.{has_number, others_than}
use Rattle.nsc_writer.specs.declared.writer.Cause.TheVariants as cause
use Rattle.nsc_writer.specs.Writer.{Writer, ending_of, passed_by, without_entry}

-- ---- the one of a number

eqb_off : (m n : ℕ) → m ≢ n → eqb m n ≡ false
eqb_off m n d = by_test (eqb m n) refl where
  by_test : (b : Bool) → eqb m n ≡ b → b ≡ false
  by_test true e = absurd (d (eqb-true m n e))
  by_test false e = refl

others_all : (n : ℕ) (ks : List Kept) → ((e : Entry) → HasEntry (entries_of ks) e → n < e.number) → others_than n ks ≡ ks
others_all n [] low = refl
others_all n (k ∷ ks) low =
    let first = low k.entry (inl refl) in
    ap (λ (b : Bool). cond (not b) (k ∷ others_than n ks) (others_than n ks)) (eqb_off k.entry.number n (λ same. omega arith))
    ∙ ap (λ (l : List Kept). k ∷ l) (others_all n ks (λ e a. low e (inr a)))

-- it stands among the others of a front and a rest
last_among : (front ks : List Kept) (k : Kept) → HasEntry (entries_of (front ++ k ∷ ks)) k.entry
last_among [] ks k = inl refl
last_among (f ∷ front) ks k = inr (last_among front ks k)

others_at : (front ks : List Kept) (k : Kept) → Rise (entries_of (front ++ k ∷ ks)) → others_than k.entry.number (front ++ k ∷ ks) ≡ front ++ ks
others_at [] ks k r =
    ap (λ (b : Bool). cond (not b) (k ∷ others_than k.entry.number ks) (others_than k.entry.number ks)) (eq-eqb k.entry.number k.entry.number refl)
    ∙ others_all k.entry.number ks (λ e a. first_least k.entry (entries_of ks) e r a)
others_at (f ∷ front) ks k r =
    let low = first_least f.entry (entries_of (front ++ k ∷ ks)) k.entry r (last_among front ks k) in
    ap (λ (b : Bool). cond (not b) (f ∷ others_than k.entry.number (front ++ k ∷ ks)) (others_than k.entry.number (front ++ k ∷ ks))) (eqb_off f.entry.number k.entry.number (λ same. omega arith))
    ∙ ap (λ (l : List Kept). f ∷ l) (others_at front ks k (rise_tail f.entry (entries_of (front ++ k ∷ ks)) r))

has_at : (front ks : List Kept) (k : Kept) → has_number k.entry.number (front ++ k ∷ ks) ≡ true
has_at [] ks k = ap (λ (b : Bool). b || has_number k.entry.number ks) (eq-eqb k.entry.number k.entry.number refl)
has_at (f ∷ front) ks k = by_test (eqb f.entry.number k.entry.number) (has_at front ks k) where
  by_test : (b : Bool) → has_number k.entry.number (front ++ k ∷ ks) ≡ true → (b || has_number k.entry.number (front ++ k ∷ ks)) ≡ true
  by_test true rest = refl
  by_test false rest = rest

rise_without : (front ks : List Kept) (k : Kept) → Rise (entries_of (front ++ k ∷ ks)) → Rise (entries_of (front ++ ks))
rise_without [] ks k r = rise_tail k.entry (entries_of ks) r
rise_without (f ∷ []) [] k r = tt
rise_without (f ∷ []) (g ∷ ks) k r = let low = r.0 in let more = r.1.0 in (omega arith, r.1.1)
rise_without (f ∷ g ∷ front) ks k r = (r.0, rise_without (g ∷ front) ks k r.1)

-- ---- ends

cause_same : (limit : Option ℕ) (now : ℕ) (k : Kept) → ending_of (due_cause_of now (due_from limit k)) ≡ due_cause limit now k
cause_same limit now k = by_drop (is_dropped limit k) where
  by_drop : (b : Bool) → ending_of (cond b (cause.Expired now) cause.Replaced) ≡ cond b (Expired now) Replaced
  by_drop true = refl
  by_drop false = refl

-- one that is due, marked as ended
abbrev pub gone_from : Option ℕ → Kept → Due
gone_from limit k = record (due_from limit k) { ended = true }

-- a writer without those of the entries that are due behind this front
abbrev without_due : Option ℕ → ℕ → List Kept → List Kept → Writer → Writer
without_due limit now front ks w = record w { cache = record w.cache { entries = front ++ others_of now ks }; seen = ends_of (due_cause limit now) (due_of now ks) w.seen }

-- all of them end
record AllEnd (limit : Option ℕ) (now : ℕ) (front ks : List Kept) (w : Writer) : Type 0 where
  pruned : pruned_by now (map (due_from limit) (due_of now ks)) w ≡ without_due limit now front ks w
  marked : marked_by now (map (due_from limit) (due_of now ks)) w ≡ map (gone_from limit) (due_of now ks)

one_ends : (limit : Option ℕ) (now : ℕ) (front ks : List Kept) (k : Kept) (w : Writer) → w.cache.entries ≡ front ++ k ∷ ks → Rise (entries_of (front ++ k ∷ ks)) → pruned_one now (due_from limit k) w ≡ record w { cache = record w.cache { entries = front ++ ks }; seen = End k.entry.number (due_cause limit now k) ∷ w.seen }
one_ends limit now front ks k w is r =
    let there : has_number k.entry.number w.cache.entries ≡ true = ap (has_number k.entry.number) is ∙ has_at front ks k in
    let left : others_than k.entry.number w.cache.entries ≡ front ++ ks = ap (others_than k.entry.number) is ∙ others_at front ks k r in
    ap (λ (b : Bool). cond b (without_entry k.entry.number (ending_of (due_cause_of now (due_from limit k))) w) w) there
    ∙ (λ i. record w { cache = record w.cache { entries = left i }; seen = End k.entry.number (cause_same limit now k i) ∷ w.seen })

all_end : (limit : Option ℕ) (now : ℕ) (front ks : List Kept) (w : Writer) → w.cache.entries ≡ front ++ ks → Rise (entries_of (front ++ ks)) → AllEnd limit now front ks w
all_end limit now front [] w is r = record { pruned = ap (λ (l : List Kept). record w { cache = record w.cache { entries = l } }) is; marked = refl }
all_end limit now front (k ∷ ks) w is r = let behind : front ++ k ∷ ks ≡ (front ++ k ∷ []) ++ ks = sym (append_assoc front (k ∷ []) ks) in
    let w1 : Writer = record w { cache = record w.cache { entries = front ++ ks }; seen = End k.entry.number (due_cause limit now k) ∷ w.seen } in
    let both = by_due (is_due now k) (all_end limit now front ks w1 refl (rise_without front ks k r)) (all_end limit now (front ++ k ∷ []) ks w (is ∙ behind) (subst (λ (l : List Kept). Rise (entries_of l)) behind r)) in record { pruned = both.0; marked = both.1 } where
      gone : Writer
      gone = record w { cache = record w.cache { entries = front ++ ks }; seen = End k.entry.number (due_cause limit now k) ∷ w.seen }

      here : pruned_one now (due_from limit k) w ≡ gone
      here = one_ends limit now front ks k w is r

      there : has_number k.entry.number w.cache.entries ≡ true
      there = ap (has_number k.entry.number) is ∙ has_at front ks k

      by_due : (b : Bool) → AllEnd limit now front ks gone → AllEnd limit now (front ++ k ∷ []) ks w
          → (pruned_by now (map (due_from limit) (cond b (k ∷ due_of now ks) (due_of now ks))) w ≡ record w { cache = record w.cache { entries = front ++ cond (not b) (k ∷ others_of now ks) (others_of now ks) }; seen = ends_of (due_cause limit now) (cond b (k ∷ due_of now ks) (due_of now ks)) w.seen })
          × (marked_by now (map (due_from limit) (cond b (k ∷ due_of now ks) (due_of now ks))) w ≡ map (gone_from limit) (cond b (k ∷ due_of now ks) (due_of now ks)))
      by_due true rest later = (
        ap (pruned_by now (map (due_from limit) (due_of now ks))) here ∙ rest.pruned,
        (λ i. record (due_from limit k) { ended = there i } ∷ marked_by now (map (due_from limit) (due_of now ks)) (here i)) ∙ ap (λ (l : List Due). gone_from limit k ∷ l) rest.marked,
      )
      by_due false rest later = (
        later.pruned ∙ ap (λ (l : List Kept). record w { cache = record w.cache { entries = l }; seen = ends_of (due_cause limit now) (due_of now ks) w.seen }) (append_assoc front (k ∷ []) (others_of now ks)),
        later.marked,
      )

-- all that are due of a writer's entries
pub record DueEnd (limit : Option ℕ) (now : ℕ) (w : Writer) : Type 0 where
  pub pruned : pruned_by now (map (due_from limit) (due_of now w.cache.entries)) w ≡ passed_by (due_ended limit now w.cache) w
  pub marked : marked_by now (map (due_from limit) (due_of now w.cache.entries)) w ≡ map (gone_from limit) (due_of now w.cache.entries)

pub due_end : (limit : Option ℕ) (now : ℕ) (w : Writer) → Rise (entries_of w.cache.entries) → DueEnd limit now w
due_end limit now w r =
    let all = all_end limit now [] w.cache.entries w refl r in
    record {
      pruned = all.pruned ∙ ap (λ (h : List Record). record w { cache = (due_ended limit now w.cache).cache; seen = h }) (sym (ends_after (due_cause limit now) (due_of now w.cache.entries) [] w.seen));
      marked = all.marked;
    }
