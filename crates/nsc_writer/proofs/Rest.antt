-- The entries that are left of a list in rising number, where those below a number were passed.
use Rattle.std.proofs.Common.{◌≡◌, ℕ, ◌+◌, ◌<◌, ◌≤◌, inl, inr, Bool, true, false, cond, leb, List, [], ◌∷◌, Option, Some, None, refl, sym, ap, subst, ◌∙◌, arith}
use Rattle.std.proofs.lemmas.Bool.{leb-true, leb-false, le-leb, lt-leb, le-ltb, lt-ltb}
use Rattle.nsc_model.specs.Entry.{Entry}
use Rattle.nsc_model.specs.Live.{HasEntry, Rise}
use Rattle.nsc_model.specs.Machine.{Kept, due_of}
use Rattle.nsc_laws.specs.Calls.{entries_of}
use Rattle.nsc_laws.proofs.CoreLawRecords.{rise_tail, first_least}
use Rattle.nsc_shelf.specs.declared.entry.EntryAt.{EntryAt}
use Rattle.nsc_shelf.specs.Shelf.{IsTold, entry_from}

-- the entries of at least this number
abbrev pub rest_from : ℕ → List Kept → List Kept
rest_from n [] = []
rest_from n (k ∷ ks) = cond (leb n k.entry.number) (k ∷ rest_from n ks) (rest_from n ks)

-- all of them have at least this number
rest_whole : (n : ℕ) (ks : List Kept) → ((e : Entry) → HasEntry (entries_of ks) e → n ≤ e.number) → rest_from n ks ≡ ks
rest_whole n [] low = refl
rest_whole n (k ∷ ks) low =
    ap (λ (b : Bool). cond b (k ∷ rest_from n ks) (rest_from n ks)) (le-leb n k.entry.number (low k.entry (inl refl)))
    ∙ ap (λ (l : List Kept). k ∷ l) (rest_whole n ks (λ e a. low e (inr a)))

pub rest_all : (ks : List Kept) → rest_from 0 ks ≡ ks
rest_all ks = rest_whole 0 ks (λ e a. omega arith)

-- where there is none, none is left
pub rest_none : (n : ℕ) (ks : List Kept) → entry_from n ks ≡ None → rest_from n ks ≡ []
rest_none n [] e = refl
rest_none n (k ∷ ks) e = by (leb n k.entry.number) e (rest_none n ks) where
  by : (b : Bool) → cond b (Some k) (entry_from n ks) ≡ None → (entry_from n ks ≡ None → rest_from n ks ≡ []) → cond b (k ∷ rest_from n ks) (rest_from n ks) ≡ []
  by true none rest = absurd cc
  by false none rest = rest none

-- the first one of those that are left, and then the others
pub rest_next : (n : ℕ) (ks : List Kept) (k : Kept) → Rise (entries_of ks) → entry_from n ks ≡ Some k → (rest_from n ks ≡ k ∷ rest_from (k.entry.number + 1) ks) × (n ≤ k.entry.number)
rest_next n [] k rising e = absurd cc
rest_next n (x ∷ xs) k rising e = by (leb n x.entry.number) refl e (rest_next n xs k (rise_tail x.entry (entries_of xs) rising)) where
  above : (m : ℕ) → m ≤ x.entry.number + 1 → rest_from m xs ≡ xs
  above m low = rest_whole m xs (λ f a. let more = first_least x.entry (entries_of xs) f rising a in omega arith)

  gone : (m : ℕ) → x.entry.number < m → rest_from m (x ∷ xs) ≡ rest_from m xs
  gone m high = ap (λ (b : Bool). cond b (x ∷ rest_from m xs) (rest_from m xs)) (lt-leb m x.entry.number high)

  by : (b : Bool) → leb n x.entry.number ≡ b → cond b (Some x) (entry_from n xs) ≡ Some k → (entry_from n xs ≡ Some k → (rest_from n xs ≡ k ∷ rest_from (k.entry.number + 1) xs) × (n ≤ k.entry.number)) → (cond b (x ∷ rest_from n xs) (rest_from n xs) ≡ k ∷ rest_from (k.entry.number + 1) (x ∷ xs)) × (n ≤ k.entry.number)
  by true t same rest =
      let is : x ≡ k = cc in
      let low = leb-true n x.entry.number t in
      subst (λ (y : Kept). (x ∷ rest_from n xs ≡ y ∷ rest_from (y.entry.number + 1) (x ∷ xs)) × (n ≤ y.entry.number)) is
      (ap (λ (l : List Kept). x ∷ l) (above n (omega arith) ∙ sym (above (x.entry.number + 1) (omega arith)) ∙ sym (gone (x.entry.number + 1) (omega arith))), low)
  by false t same rest =
      let r = rest same in
      let less = leb-false n x.entry.number t in
      let low = r.1 in
      (r.0 ∙ ap (λ (l : List Kept). k ∷ l) (sym (gone (k.entry.number + 1) (omega arith))), low)

-- it is one of the entries
pub rest_among : (n : ℕ) (ks : List Kept) (k : Kept) → entry_from n ks ≡ Some k → HasEntry (entries_of ks) k.entry
rest_among n [] k e = absurd cc
rest_among n (x ∷ xs) k e = by (leb n x.entry.number) e (rest_among n xs k) where
  by : (b : Bool) → cond b (Some x) (entry_from n xs) ≡ Some k → (entry_from n xs ≡ Some k → HasEntry (entries_of xs) k.entry) → HasEntry (entries_of (x ∷ xs)) k.entry
  by true same rest = let is : x ≡ k = cc in inl (ap (λ (y : Kept). y.entry) is)
  by false same rest = inr (rest same)

-- ---- what a shelf tells

abbrev pub told_of : Kept → EntryAt
told_of k = record { number = k.entry.number; kind = k.entry.request.kind; version = k.entry.version; timeout = k.entry.timeout; reloads = k.reloads; not_found = k.entry.answer.not_found; next = k.entry.number + 1 }

pub told_entry : (o : Option Kept) (e : EntryAt) → IsTold o (Some e) → (k : Kept) × (o ≡ Some k) × (e ≡ told_of k)
told_entry None e told = absurd cc
told_entry (Some k) e told = (k, refl, (let is : e ≡ told_of k = cc in is))

pub told_none : (o : Option Kept) → IsTold o None → o ≡ None
told_none None told = refl
told_none (Some k) told = absurd cc

-- it is the first one of its own number on
pub first_again : (n : ℕ) (ks : List Kept) (k : Kept) → entry_from n ks ≡ Some k → (n ≤ k.entry.number) × (entry_from k.entry.number ks ≡ Some k)
first_again n [] k e = absurd cc
first_again n (x ∷ xs) k e = by (leb n x.entry.number) refl e (first_again n xs k) where
  by : (b : Bool) → leb n x.entry.number ≡ b → cond b (Some x) (entry_from n xs) ≡ Some k → (entry_from n xs ≡ Some k → (n ≤ k.entry.number) × (entry_from k.entry.number xs ≡ Some k)) → (n ≤ k.entry.number) × (entry_from k.entry.number (x ∷ xs) ≡ Some k)
  by true t same rest =
      let is : x ≡ k = cc in
      subst (λ (y : Kept). (n ≤ y.entry.number) × (entry_from y.entry.number (x ∷ xs) ≡ Some y)) is
      (leb-true n x.entry.number t, ap (λ (b : Bool). cond b (Some x) (entry_from x.entry.number xs)) (le-leb x.entry.number x.entry.number (omega arith)))
  by false t same rest =
      let r = rest same in
      let less = leb-false n x.entry.number t in
      let low = r.0 in
      (low, ap (λ (b : Bool). cond b (Some x) (entry_from k.entry.number xs)) (lt-leb k.entry.number x.entry.number (omega arith)) ∙ r.1)

-- ---- what is due of them

pub due_more : (now : ℕ) (k : Kept) (ks : List Kept) → k.entry.timeout < now → due_of now (k ∷ ks) ≡ k ∷ due_of now ks
due_more now k ks late = ap (λ (b : Bool). cond b (k ∷ due_of now ks) (due_of now ks)) (lt-ltb k.entry.timeout now late)

pub due_same : (now : ℕ) (k : Kept) (ks : List Kept) → now ≤ k.entry.timeout → due_of now (k ∷ ks) ≡ due_of now ks
due_same now k ks early = ap (λ (b : Bool). cond b (k ∷ due_of now ks) (due_of now ks)) (le-ltb k.entry.timeout now early)
