-- Ends of entries keep what holds of a writer while its lock is free.
use Rattle.std.proofs.Common.{◌≡◌, ℕ, zero, suc, ◌+◌, ◌≤◌, Bool, true, false, cond, eqb, ◌||◌, ◌⊎◌, not, All, List, [], ◌∷◌, filter, get_or, Option, refl, sym, ap, subst, ◌∙◌, arith, inl, inr}
use Rattle.std.proofs.lemmas.Bool.{eq-eqb}
use Rattle.std.specs.Bool.{OnTrue}
use Rattle.nsc_model.specs.declared.answer.Request.{Request}
use Rattle.nsc_model.specs.declared.conf.DbConf.{DbConf}
use Rattle.nsc_model.specs.declared.record.Ending.{Ending}
use Rattle.nsc_model.specs.declared.record.Ending.TheVariants.{Expired, Invalidated, Replaced}
use Rattle.nsc_model.specs.declared.record.Record.{Record}
use Rattle.nsc_model.specs.declared.record.Record.TheVariants.{End}
use Rattle.nsc_model.specs.Entry.{Entry}
use Rattle.nsc_model.specs.Live.{HasEntry}
use Rattle.nsc_model.specs.History.{HasEnd, HasLoad, IsLive, changes, load_of}
use Rattle.nsc_model.specs.Machine.{Kept, Cache, all_words, by_invalidation, ends_of, last_count}
use Rattle.nsc_model.specs.Reloads.{AreDropped, IsDropped, Reloaded, invalidated_at}
use Rattle.nsc_laws.specs.Calls.{Tells, entries_of}
use Rattle.nsc_laws.proofs.CoreLawRecords.{ended_or_not}
use Rattle.nsc_laws.proofs.MachineLawEnds.{changes_ends}
use Rattle.nsc_laws.proofs.Reloads.{replaced_on}
use Rattle.nsc_shelf.specs.Shelf.{has_number, is_numbered}
use Rattle.nsc_writer.specs.Writer.{Writer, emptied_by, without_entry}
use Rattle.nsc_database.specs.Rests.{IsPacked, IsReloaded, Keeps}
use Rattle.nsc_database.proofs.Rests.{invalidated_low}

pub on_true : (b : Bool) (A B : Type 0) → (A → B) → OnTrue b A → OnTrue b B
on_true true A B f a = f a
on_true false A B f a = a

-- ---- what ends add to a history

-- an invalidation drops none
dropped_through : (brought : Request → ℕ) (limit : Option ℕ) (ks : List Kept) (h : List Record) → AreDropped brought limit h → AreDropped brought limit (ends_of by_invalidation ks h)
dropped_through brought limit [] h d = d
dropped_through brought limit (k ∷ ks) h d = dropped_through brought limit ks (End k.entry.number Invalidated ∷ h) d

-- why this end is right: a dropped entry may be dropped
abbrev pub IsRight : (Request → ℕ) → Option ℕ → List Record → ℕ → Ending → Type 0
IsRight brought limit h n (Expired now) = IsDropped brought limit h (load_of h n)
IsRight brought limit h n Invalidated = ⊥
IsRight brought limit h n Replaced = Unit {0}

reloaded_ended : (brought : Request → ℕ) (limit : Option ℕ) (h : List Record) (n : ℕ) (cause : Ending) → IsRight brought limit h n cause → Reloaded brought limit h → Reloaded brought limit (End n cause ∷ h)
reloaded_ended brought limit h n (Expired now) right r = record { dropped = (right, r.dropped); invalidated = r.invalidated }
reloaded_ended brought limit h n Invalidated right r = absurd right
reloaded_ended brought limit h n Replaced right r = record { dropped = r.dropped; invalidated = r.invalidated }

-- ---- an invalidation

pub keeps_emptied : (settings : DbConf) (brought : Request → ℕ) (limit : Option ℕ) (ticked : ℕ) (w w' : Writer) → w' ≡ emptied_by w → Tells w.seen w.cache → Keeps settings brought limit ticked w → Keeps settings brought limit ticked w'
keeps_emptied settings brought limit ticked w w' is t k = subst (Keeps settings brought limit ticked) (sym is) (record {
  reloaded = record { dropped = dropped_through brought limit w.cache.entries w.seen k.reloaded.dropped; invalidated = tt };
  counted = λ i d low. absurd (omega arith);
  found = on_true settings.check_files (ticked ≤ invalidated_at w.seen) _ (λ low.
      let base = invalidated_low w.seen t.legal in
      let same : changes (ends_of by_invalidation w.cache.entries w.seen) ≡ changes w.seen = changes_ends by_invalidation w.cache.entries w.seen in
      omega arith) k.found;
})

-- every version that is kept by a tick that invalidates is the newest one
pub keeps_newest : (settings : DbConf) (brought : Request → ℕ) (limit : Option ℕ) (ticked newest : ℕ) (w w' : Writer) → w' ≡ emptied_by w → Tells w.seen w.cache → newest ≡ w.cache.newest_version → Keeps settings brought limit ticked w → Keeps settings brought limit newest w'
keeps_newest settings brought limit ticked newest w w' is t n k =
    let kept = keeps_emptied settings brought limit ticked w w' is t k in
    record {
      reloaded = kept.reloaded;
      counted = kept.counted;
      found = subst (λ (x : Writer). OnTrue settings.check_files (newest ≤ invalidated_at x.seen)) (sym is) (on_true settings.check_files (ticked ≤ invalidated_at w.seen) _ (λ low.
          let same : changes (ends_of by_invalidation w.cache.entries w.seen) ≡ changes w.seen = changes_ends by_invalidation w.cache.entries w.seen in
          let all = t.counted in
          omega arith) k.found);
    }

-- ---- compactions

pub packed_compacted : (w w' : Writer) → w' ≡ record w { cache = record w.cache { cycle = w.cache.cycle + 2; used = all_words w.cache.entries } } → IsPacked w'
packed_compacted w w' is = subst IsPacked (sym is) (λ low. refl)

pub packed_spent : (w w' : Writer) → w' ≡ w → last_count ≤ w.cache.cycle → IsPacked w'
packed_spent w w' is high = subst IsPacked (sym is) (λ low. absurd (omega arith))

pub keeps_compacted : (settings : DbConf) (brought : Request → ℕ) (limit : Option ℕ) (ticked used cycle : ℕ) (w w' : Writer) → w' ≡ record w { cache = record w.cache { cycle = cycle; used = used } } → Keeps settings brought limit ticked w → Keeps settings brought limit ticked w'
keeps_compacted settings brought limit ticked used cycle w w' is k = subst (Keeps settings brought limit ticked) (sym is) (record { reloaded = k.reloaded; counted = k.counted; found = k.found })

-- ---- one end

all_filtered : (P : Kept → Type 0) (test : Kept → Bool) (ks : List Kept) → All P ks → All P (filter test ks)
all_filtered P test [] all = λ i d low. absurd (omega arith)
all_filtered P test (k ∷ ks) all = by_test (test k) (all_filtered P test ks (λ i d low. all (suc i) d (omega arith))) where
  by_test : (b : Bool) → All P (filter test ks) → All P (cond b (k ∷ filter test ks) (filter test ks))
  by_test true rest zero d low = all 0 k (omega arith)
  by_test true rest (suc i) d low = rest i d (omega arith)
  by_test false rest i d low = rest i d low

pub keeps_ended : (settings : DbConf) (brought : Request → ℕ) (limit : Option ℕ) (ticked n : ℕ) (cause : Ending) (w : Writer) → IsRight brought limit w.seen n cause → Keeps settings brought limit ticked w → Keeps settings brought limit ticked (without_entry n cause w)
keeps_ended settings brought limit ticked n cause w right k = record {
  reloaded = reloaded_ended brought limit w.seen n cause right k.reloaded;
  counted = all_filtered (IsReloaded brought (End n cause ∷ w.seen)) (λ (x : Kept). not (is_numbered n x)) w.cache.entries (λ i d low.
      let before = k.counted i d low in
      let rise = replaced_on w.seen (End n cause ∷ w.seen) (get_or w.cache.entries i d).entry.request (End n cause ∷ [], refl) in
      omega arith);
  found = k.found;
}

-- ---- what ended

has_among : (n : ℕ) (ks : List Kept) (e : Entry) → HasEntry (entries_of ks) e → e.number ≡ n → has_number n ks ≡ true
has_among n [] e a is = absurd a
has_among n (k ∷ ks) e (inl same) is = ap (λ (b : Bool). b || has_number n ks) (eq-eqb k.entry.number n (ap (λ (x : Entry). x.number) same ∙ is))
has_among n (k ∷ ks) e (inr a) is = by_test (eqb k.entry.number n) (has_among n ks e a is) where
  by_test : (b : Bool) → has_number n ks ≡ true → (b || has_number n ks) ≡ true
  by_test true rest = refl
  by_test false rest = rest

-- an entry that was inserted and is not live ended
pub gone_ended : (h : List Record) (cache : Cache) (n : ℕ) (e : Entry) → Tells h cache → HasLoad h e → e.number ≡ n → has_number n cache.entries ≡ false → HasEnd h n
gone_ended h cache n e t a is gone = by_end (ended_or_not h n) where
  by_end : HasEnd h n ⊎ (HasEnd h n → ⊥) → HasEnd h n
  by_end (inl ended) = ended
  by_end (inr not_ended) =
      let live : IsLive h e = record { inserted = a; not_ended = subst (λ (m : ℕ). HasEnd h m → ⊥) (sym is) not_ended } in
      let there : has_number n cache.entries ≡ true = has_among n cache.entries e (t.entries_are.all e live) is in
      absurd cc
