-- The entries of a writer end, one after the other, as invalidated.
use Rattle.std.proofs.Common.{◌≡◌, ◌≢◌, ℕ, ◌+◌, ◌≤◌, inl, inr, Bool, true, cond, not, ◌||◌, eq-eqb, List, [], ◌∷◌, Some, None, refl, sym, ap, subst, ◌∙◌, arith}
use Rattle.std.proofs.lemmas.Bool.{le-leb, ne_eqb}
use Rattle.nsc_model.specs.declared.record.Ending.TheVariants.{Invalidated}
use Rattle.nsc_model.specs.declared.record.Record.TheVariants.{End}
use Rattle.nsc_model.specs.Entry.{Entry}
use Rattle.nsc_model.specs.Live.{HasEntry, Rise}
use Rattle.nsc_model.specs.Machine.{Kept, by_invalidation, ends_of}
use Rattle.nsc_laws.specs.Calls.{entries_of}
use Rattle.nsc_laws.proofs.CoreLawRecords.{first_least}
use Rattle.nsc_shelf.specs.Shelf.{entry_from, has_number, others_than}
use Rattle.nsc_writer.specs.Writer.{Writer, all_ended, without_entry}

-- some of a writer's entries ended: those that are left have at least this number, and their ends make the whole
pub record EndsSome (before w : Writer) (from : ℕ) : Type 0 where
  pub whole : all_ended w ≡ all_ended before
  pub slide : w.slide ≡ None
  pub left : (e : Entry) → HasEntry (entries_of w.cache.entries) e → from ≤ e.number

pub none_ended : (w : Writer) → w.slide ≡ None → EndsSome w w 0
none_ended w still = record { whole = refl; slide = still; left = λ e among. omega arith }

-- the first of entries is the oldest one of at least a number that none of them is below
pub first_left : (from : ℕ) (ks : List Kept) (k : Kept) → ((e : Entry) → HasEntry (entries_of ks) e → from ≤ e.number) → entry_from from ks ≡ Some k → (rest : List Kept) × (ks ≡ k ∷ rest)
first_left from [] k left e = absurd cc
first_left from (x ∷ xs) k left e =
    let first : Some x ≡ Some k = sym (ap (λ (b : Bool). cond b (Some x) (entry_from from xs)) (le-leb from x.entry.number (left x.entry (inl refl)))) ∙ e in
    let is : x ≡ k = cc in
    (xs, ap (λ (y : Kept). y ∷ xs) is)

pub none_left : (from : ℕ) (ks : List Kept) → ((e : Entry) → HasEntry (entries_of ks) e → from ≤ e.number) → entry_from from ks ≡ None → ks ≡ []
none_left from [] left e = refl
none_left from (x ∷ xs) left e = absurd (let first : Some x ≡ None = sym (ap (λ (b : Bool). cond b (Some x) (entry_from from xs)) (le-leb from x.entry.number (left x.entry (inl refl)))) ∙ e in cc)

-- those of other numbers than the first one's are the rest
others_all : (n : ℕ) (ks : List Kept) → ((e : Entry) → HasEntry (entries_of ks) e → e.number ≢ n) → others_than n ks ≡ ks
others_all n [] other = refl
others_all n (k ∷ ks) other =
    ap (λ (b : Bool). cond (not b) (k ∷ others_than n ks) (others_than n ks)) (ne_eqb k.entry.number n (other k.entry (inl refl))) ∙ ap (λ (l : List Kept). k ∷ l) (others_all n ks (λ e a. other e (inr a)))

pub others_rest : (k : Kept) (rest : List Kept) → Rise (entries_of (k ∷ rest)) → others_than k.entry.number (k ∷ rest) ≡ rest
others_rest k rest rising =
    ap (λ (b : Bool). cond (not b) (k ∷ others_than k.entry.number rest) (others_than k.entry.number rest)) (eq-eqb k.entry.number k.entry.number refl)
    ∙ others_all k.entry.number rest (λ e a same. let more = first_least k.entry (entries_of rest) e rising a in omega arith)

pub first_numbered : (k : Kept) (rest : List Kept) → has_number k.entry.number (k ∷ rest) ≡ true
first_numbered k rest = ap (λ (b : Bool). b || has_number k.entry.number rest) (eq-eqb k.entry.number k.entry.number refl)

-- one entry more ended
pub next_ended : (before w w' : Writer) (from : ℕ) (k : Kept) (rest : List Kept) → EndsSome before w from → w.cache.entries ≡ k ∷ rest → Rise (entries_of w.cache.entries) → w' ≡ without_entry k.entry.number Invalidated w → EndsSome before w' (k.entry.number + 1) × (w'.cache.entries ≡ rest)
next_ended before w w' from k rest some split rises is =
    let rising : Rise (entries_of (k ∷ rest)) = subst (λ (ks : List Kept). Rise (entries_of ks)) split rises in
    let others : others_than k.entry.number w.cache.entries ≡ rest = ap (others_than k.entry.number) split ∙ others_rest k rest rising in
    let now : w' ≡ record w { cache = record w.cache { entries = rest }; seen = End k.entry.number Invalidated ∷ w.seen } = is ∙ (λ i. record w { cache = record w.cache { entries = others i }; seen = End k.entry.number Invalidated ∷ w.seen }) in
    let entries : w'.cache.entries ≡ rest = ap (λ (v : Writer). v.cache.entries) now in (
      record {
        whole = ap all_ended now ∙ ap (λ (ks : List Kept). record w { cache = record w.cache { entries = [] }; seen = ends_of by_invalidation ks w.seen }) (sym split) ∙ some.whole;
        slide = ap (λ (v : Writer). v.slide) is ∙ some.slide;
        left = λ e a. let more = first_least k.entry (entries_of rest) e rising (subst (λ (ks : List Kept). HasEntry (entries_of ks) e) entries a) in omega arith;
      },
      entries,
    )
