-- The ends of entries whose time is over, one after the other.
use Rattle.std.proofs.Common.{◌≡◌, ℕ, suc, ◌+◌, ◌<◌, ◌≤◌, Bool, true, false, cond, List, [], ◌∷◌, ◌++◌, drop, take, set, length, get_or, add-one, drop-cons, All, refl, sym, ap, subst, ◌∙◌, arith}
use Rattle.std.proofs.lemmas.List.{append_assoc, drop-set-lt, take-append-drop, take_more_set}
use Rattle.std.proofs.Math.ListN.{drop_of_length-le}
use Rattle.nsc_model.specs.declared.record.Record.{Record}
use Rattle.nsc_model.specs.Entry.{Entry}
use Rattle.nsc_model.specs.History.{Allows, HasLoad, IsLive, Legal}
use Rattle.std.specs.Bool.{OnTrue, OnFalse}
use Rattle.nsc_laws.proofs.MachineLawLists.{same_load}
use Rattle.nsc_pruner.specs.Due.{Due, IsOver, due_cause_of, marked_by, pruned_by, pruned_one}
use Rattle.nsc_writer.specs.declared.writer.Cause.{Cause}
use Rattle.nsc_shelf.specs.Shelf.{has_number}
use Rattle.nsc_writer.specs.Writer.{Writer, ending_of, without_entry}

-- what is left to end, and what is marked so far, make the whole
pub record EndsLeft (now : ℕ) (due : List Due) (before : Writer) (items : List Due) (at : ℕ) (w : Writer) : Type 0 where
  pub over : All (IsOver w.seen now) (drop at items)
  pub whole : pruned_by now (drop at items) w ≡ pruned_by now due before
  pub slide : w.slide ≡ before.slide
  pub marks : take at items ++ marked_by now (drop at items) w ≡ marked_by now due before

pub nothing_ended : (now : ℕ) (due : List Due) (w : Writer) → All (IsOver w.seen now) due → EndsLeft now due w due 0 w
nothing_ended now due w over = record { over = over; whole = refl; slide = refl; marks = refl }

-- the cause lets the entry end whose number it is
cause_allows : (dropped : Bool) (now : ℕ) (d : Due) (e : Entry) → e.timeout < now → d.dropped ≡ dropped → Allows (ending_of (due_cause_of now d)) e
cause_allows true now d e low is = rw is low
cause_allows false now d e low is = rw is tt

pub over_allows : (h : List Record) (now : ℕ) (d : Due) → Legal h → IsOver h now d → (e : Entry) → IsLive h e → e.number ≡ d.number → Allows (ending_of (due_cause_of now d)) e
over_allows h now d legal over e live number =
    let same : over.0 ≡ e = same_load h over.0 e legal over.1 live.inserted (over.2 ∙ sym number) in
    cause_allows d.dropped now d e (subst (λ (x : Entry). x.timeout < now) same over.3) refl

pub load_stays : (now : ℕ) (d : Due) (w : Writer) (e : Entry) → HasLoad w.seen e → HasLoad (pruned_one now d w).seen e
load_stays now d w e a = by_test (has_number d.number w.cache.entries) where
  by_test : (b : Bool) → HasLoad (cond b (without_entry d.number (ending_of (due_cause_of now d)) w) w).seen e
  by_test true = a
  by_test false = a

slide_stays : (now : ℕ) (d : Due) (w : Writer) → (pruned_one now d w).slide ≡ w.slide
slide_stays now d w = by_test (has_number d.number w.cache.entries) where
  by_test : (b : Bool) → (cond b (without_entry d.number (ending_of (due_cause_of now d)) w) w).slide ≡ w.slide
  by_test true = refl
  by_test false = refl

over_stays : (now : ℕ) (d : Due) (w : Writer) (due : List Due) → All (IsOver w.seen now) due → All (IsOver (pruned_one now d w).seen now) due
over_stays now d w due all k x low = let o = all k x low in (o.0, load_stays now d w o.0 o.1, o.2, o.3)

pub head_of : {A : Type 0} (P : A → Type 0) (x : A) (xs : List A) → All P (x ∷ xs) → P x
head_of P x xs all = all 0 x (omega arith)

pub tail_of : {A : Type 0} (P : A → Type 0) (x : A) (xs : List A) → All P (x ∷ xs) → All P xs
tail_of P x xs all k d low = all (suc k) d (omega arith)

-- the next one ended, where it was live
pub next_ended : (now : ℕ) (due : List Due) (before w w' : Writer) (items items' : List Due) (at : ℕ) (d : Due) → EndsLeft now due before items at w → at < length items → drop at items ≡ d ∷ drop (at + 1) items → w' ≡ pruned_one now d w
    → items' ≡ set items at (record d { ended = has_number d.number w.cache.entries }) → EndsLeft now due before items' (at + 1) w'
next_ended now due before w w' items items' at d left low split is set_is =
    let marked : Due = record d { ended = has_number d.number w.cache.entries } in
    let rest : drop (at + 1) items' ≡ drop (at + 1) items = ap (drop (at + 1)) set_is ∙ drop-set-lt (at + 1) items at marked (omega arith) in
    let front : take (at + 1) items' ≡ take at items ++ marked ∷ [] = ap (take (at + 1)) set_is ∙ take_more_set items at marked low in
    let over = subst (All (IsOver w.seen now)) split left.over in
    record {
      over = subst (λ (x : Writer × List Due). All (IsOver x.0.seen now) x.1) (λ i. (sym is i, sym rest i)) (over_stays now d w (drop (at + 1) items) (tail_of (IsOver w.seen now) d (drop (at + 1) items) over));
      whole = ap (λ (x : Writer × List Due). pruned_by now x.1 x.0) (λ i. (is i, rest i)) ∙ sym (ap (λ (l : List Due). pruned_by now l w) split) ∙ left.whole;
      slide = ap (λ (x : Writer). x.slide) is ∙ slide_stays now d w ∙ left.slide;
      marks =
          ap (λ (x : Writer × List Due × List Due). x.2 ++ marked_by now x.1 x.0) (λ i. (is i, rest i, front i))
          ∙ append_assoc (take at items) (marked ∷ []) (marked_by now (drop (at + 1) items) (pruned_one now d w))
          ∙ sym (ap (λ (l : List Due). take at items ++ marked_by now l w) split) ∙ left.marks;
    }

pub all_pruned : (now : ℕ) (due : List Due) (before w : Writer) (items : List Due) (at : ℕ) → EndsLeft now due before items at w → length items ≤ at → w ≡ pruned_by now due before
all_pruned now due before w items at left past = subst (λ (l : List Due). pruned_by now l w ≡ pruned_by now due before) (drop_of_length-le items past) left.whole

pub all_marked : (now : ℕ) (due : List Due) (before w : Writer) (items : List Due) (at : ℕ) → EndsLeft now due before items at w → length items ≤ at → items ≡ marked_by now due before
all_marked now due before w items at left past =
    let none : marked_by now (drop at items) w ≡ [] = ap (λ (l : List Due). marked_by now l w) (drop_of_length-le items past) in
    let rest : drop at items ≡ [] = drop_of_length-le items past in
    sym (take-append-drop at items) ∙ ap (λ (l : List Due). take at items ++ l) rest ∙ sym (ap (λ (l : List Due). take at items ++ l) none) ∙ left.marks

-- a list from a place on, split at it
pub split_at : {A : Type 0} (xs : List A) (i : ℕ) (d : A) → i < length xs → drop i xs ≡ get_or xs i d ∷ drop (i + 1) xs
split_at xs i d low = drop-cons xs i d low ∙ ap (λ (n : ℕ). get_or xs i d ∷ drop n xs) (sym (add-one i))

-- the end of one, by what the call says of it
pub one_ended : (now : ℕ) (d : Due) (w w' : Writer) (n : ℕ) (cause : Cause) (ended : Bool) → n ≡ d.number → cause ≡ due_cause_of now d → ended ≡ has_number n w.cache.entries → OnTrue ended (w' ≡ without_entry n (ending_of cause) w) → OnFalse ended (w' ≡ w)
    → w' ≡ pruned_one now d w
one_ended now d w w' n cause true number why live done stays =
    let test : has_number d.number w.cache.entries ≡ true = ap (λ (k : ℕ). has_number k w.cache.entries) (sym number) ∙ sym live in
    done ∙ (λ i. without_entry (number i) (ending_of (why i)) w) ∙ sym (ap (λ (b : Bool). cond b (without_entry d.number (ending_of (due_cause_of now d)) w) w) test)
one_ended now d w w' n cause false number why live done stays =
    let test : has_number d.number w.cache.entries ≡ false = ap (λ (k : ℕ). has_number k w.cache.entries) (sym number) ∙ sym live in
    stays ∙ sym (ap (λ (b : Bool). cond b (without_entry d.number (ending_of (due_cause_of now d)) w) w) test)
