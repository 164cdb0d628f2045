-- What an invalidation leaves of a writer, with and without its compaction.
use Rattle.std.proofs.Common.{◌≡◌, ℕ, ◌+◌, ◌<◌, ◌≤◌, ◌⊎◌, List, [], ◌∷◌, length, refl, sym, ap, subst, ◌∙◌, arith, inl, inr, Result, Ok, Err}
use Rattle.std.specs.Prelude.{IfErr, IfOk}
use Rattle.nsc_model.specs.declared.answer.Request.{Request}
use Rattle.nsc_model.specs.declared.kind.Db.{Db}
use Rattle.nsc_model.specs.declared.record.Record.{Record}
use Rattle.nsc_model.specs.declared.store.Spent.{Spent}
use Rattle.nsc_model.specs.Entry.{Entry}
use Rattle.nsc_model.specs.History.{HasLoad, IsPrefix, NoneLive, invalidations}
use Rattle.nsc_model.specs.Machine.{Kept, all_words, by_invalidation, ends_of, invalidated, last_count}
use Rattle.nsc_model.specs.Stores.{IsEmptied, IsUnmoved}
use Rattle.nsc_laws.specs.Calls.{Tells}
use Rattle.nsc_writer.specs.Writer.{Writer, emptied_by}
use Rattle.nsc_writer.proofs.Told.{emptied_tells}
use Rattle.nsc_turns.specs.Turns.{Completes, Stops}
use Rattle.nsc_turns.proofs.Emptied.{IsStopped, completes_left, stops_left}
use Rattle.nsc_image.specs.Saving.{IsEntryOf}
use Rattle.nsc_database.specs.Rests.{FindsNewest, IsPacked, LoadsAgain, Rests}
use Rattle.nsc_database.specs.Ticks.{compacted_by}
use Rattle.nsc_model.specs.declared.record.Record.TheVariants.{End, Invalid}
use Rattle.nsc_database.proofs.Again.{again_ends, again_later, again_more}
use Rattle.nsc_database.proofs.Rests.{rests_same}
use Rattle.nsc_database.proofs.Shown.{emptied_on, invalidations_on, is_emptied, none_after}
use Rattle.nsc_database.proofs.Steady.{version_emptied}
use Rattle.nsc_database.proofs.Ended.{keeps_compacted, keeps_emptied, keeps_newest, packed_compacted, packed_spent}

again_emptied : (w w' : Writer) → w' ≡ emptied_by w → (arena : ℕ) → LoadsAgain arena w.cache.cycle w.seen → LoadsAgain arena w'.cache.cycle w'.seen
again_emptied w w' is arena l =
    subst (λ (x : Writer). LoadsAgain arena x.cache.cycle x.seen) (sym is) (again_more arena w.cache.cycle (Invalid (w.cache.epoch + 1)) (ends_of by_invalidation w.cache.entries w.seen) tt (again_ends arena w.cache.cycle w.cache.entries w.seen l))

-- which entries were inserted stays
loads_ended : (ks : List Kept) (h : List Record) (e : Entry) → HasLoad (ends_of by_invalidation ks h) e → HasLoad h e
loads_ended [] h e a = a
loads_ended (k ∷ ks) h e a = loads_ended ks (End k.entry.number (by_invalidation k) ∷ h) e a

loads_emptied : {which : Db} (w w' : Writer) → w' ≡ emptied_by w → (e : Entry) → HasLoad w'.seen e → HasLoad w.seen e ⊎ IsEntryOf which e
loads_emptied w w' is e a = inl (loads_ended w.cache.entries w.seen e (subst (λ (x : Writer). HasLoad x.seen e) is a))

rests_from : {which : Db} {brought : Request → ℕ} (w w' : Writer) → w' ≡ emptied_by w → Tells w.seen w.cache → (IsPacked w → IsPacked w') → Rests which brought w w'
rests_from {which} {brought} w w' is t packed =
    let goes = emptied_on w w' is in
    record { on = goes.on; table = goes.table; layout = goes.layout; slide = goes.slide; keeps = λ settings limit ticked k. keeps_emptied settings brought limit ticked w w' is t k; packed = packed; again = again_emptied w w' is; version = version_emptied w w' is; inserts = loads_emptied w w' is }

no_entries : (ks : List Kept) → length ks ≡ 0 → ks ≡ []
no_entries [] e = refl
no_entries (k ∷ ks) e = absurd (omega arith)

-- where no entry was live
pub rests_left : {which : Db} {brought : Request → ℕ} (w w' : Writer) → w' ≡ emptied_by w → Tells w.seen w.cache → length w.cache.entries ≡ 0 → Rests which brought w w'
rests_left w w' is t none = rests_from w w' is t (λ p. subst IsPacked (sym is) (λ low. p low ∙ ap all_words (no_entries w.cache.entries none)))

-- where it was compacted
pub rests_compacted : {which : Db} {brought : Request → ℕ} (w w' w'' : Writer) → w' ≡ emptied_by w → Tells w.seen w.cache → w'' ≡ compacted_by w' → Rests which brought w w''
rests_compacted {which} {brought} w w' w'' empty t is =
    let goes = emptied_on w w' empty in
    let version = version_emptied w w' empty in
    subst (Rests which brought w) (sym is) (record {
      on = goes.on;
      table = goes.table;
      layout = goes.layout;
      slide = goes.slide;
      keeps = λ settings limit ticked k. keeps_compacted settings brought limit ticked (all_words w'.cache.entries) (w'.cache.cycle + 2) w' (compacted_by w') refl (keeps_emptied settings brought limit ticked w w' empty t k);
      packed = λ p. packed_compacted w' (compacted_by w') refl;
      again = λ arena l. again_later arena w'.cache.cycle (w'.cache.cycle + 2) w'.seen (omega arith) (again_emptied w w' empty arena l);
      version = record { version = version.version; sources = version.sources };
      inserts = loads_emptied w w' empty;
    })

-- where the count of the beginnings and the ends of slides stands at its end
pub rests_spent : {which : Db} {brought : Request → ℕ} (w w' w'' : Writer) → w' ≡ emptied_by w → Tells w.seen w.cache → last_count ≤ w'.cache.cycle → w'' ≡ w' → Rests which brought w w''
rests_spent {which} {brought} w w' w'' empty t last is = subst (Rests which brought w) (sym is) (rests_from w w' empty t (λ p. packed_spent w' w' refl last))

pub is_unmoved : (w : Writer) (count : ℕ) (ended : Type 0) → last_count ≤ w.cache.cycle → count ≡ last_count → ended → IsUnmoved w.seen (last_count ≤ w.cache.cycle) count ended
is_unmoved w count ended high is made = record { last = is; cause = inr (high, made) }

pub finds_left : {brought : Request → ℕ} (w w' : Writer) → w' ≡ emptied_by w → Tells w.seen w.cache → FindsNewest brought w w'
finds_left {brought} w w' is t settings limit ticked k = keeps_newest settings brought limit ticked w.cache.newest_version w w' is t refl k

pub finds_compacted : {brought : Request → ℕ} (w w' w'' : Writer) → w' ≡ emptied_by w → Tells w.seen w.cache → w'' ≡ compacted_by w' → FindsNewest brought w w''
finds_compacted {brought} w w' w'' empty t is settings limit ticked k =
    keeps_compacted settings brought limit w.cache.newest_version (all_words w'.cache.entries) (w'.cache.cycle + 2) w' w'' is (finds_left w w' empty t settings limit ticked k)

-- ---- the turn

pub rests_emptied : {which : Db} {brought : Request → ℕ} (w w' : Writer) → Completes (invalidated w.cache) w w' → Tells w.seen w.cache → Rests which brought w w'
rests_emptied w w' p t = elim (completes_left w w' p) [ inl (none, is) ↦ rests_left w w' is t none | inr (some, is) ↦ rests_compacted w (emptied_by w) w' refl t is ]

pub finds_emptied : {brought : Request → ℕ} (w w' : Writer) → Completes (invalidated w.cache) w w' → Tells w.seen w.cache → FindsNewest brought w w'
finds_emptied w w' p t = elim (completes_left w w' p) [ inl (none, is) ↦ finds_left w w' is t | inr (some, is) ↦ finds_compacted w (emptied_by w) w' refl t is ]

pub completes_none : (w w' : Writer) → Completes (invalidated w.cache) w w' → Tells w.seen w.cache → NoneLive w'.seen
completes_none w w' p t =
    let left : w'.seen ≡ (emptied_by w).seen = elim (completes_left w w' p) [ inl (none, is) ↦ ap (λ (x : Writer). x.seen) is | inr (some, is) ↦ ap (λ (x : Writer). x.seen) is ] in
    subst NoneLive (sym left) (none_after w (emptied_by w) (emptied_tells w.seen w.cache t) refl)

pub completes_emptied : (w w' : Writer) (epoch : ℕ) → Completes (invalidated w.cache) w w' → w.cache.epoch < last_count → Tells w.seen w.cache → epoch ≡ w'.cache.epoch → IsEmptied w.seen w'.seen epoch
completes_emptied w w' epoch p low t counted =
    let left : (w'.seen ≡ (emptied_by w).seen) × (w'.cache.epoch ≡ w.cache.epoch + 1) = elim (completes_left w w' p) [ inl (none, is) ↦ (ap (λ (x : Writer). x.seen) is, ap (λ (x : Writer). x.cache.epoch) is) | inr (some, is) ↦ (ap (λ (x : Writer). x.seen) is, ap (λ (x : Writer). x.cache.epoch) is) ] in
    subst (λ (h : List Record). IsEmptied w.seen h epoch) (sym left.0) (is_emptied w (emptied_by w) epoch low t (emptied_tells w.seen w.cache t) (counted ∙ left.1) refl)

pub rests_stopped : {which : Db} {brought : Request → ℕ} (w w' : Writer) (count : ℕ) → Stops (invalidated w.cache) count w w' → Tells w.seen w.cache → Rests which brought w w'
rests_stopped w w' count s t = elim (stops_left w w' count s).1 [ inl (last, is) ↦ rests_same w w' is | inr (high, is) ↦ rests_spent w (emptied_by w) w' refl t high is ]

pub stops_unmoved : (w w' : Writer) (count : ℕ) → Stops (invalidated w.cache) count w w' → Tells w.seen w.cache → IsUnmoved w'.seen (last_count ≤ w'.cache.cycle) count (NoneLive w'.seen)
stops_unmoved w w' count s t = by_cause (stops_left w w' count s) where
  by_cause : IsStopped w count w' → IsUnmoved w'.seen (last_count ≤ w'.cache.cycle) count (NoneLive w'.seen)
  by_cause (at, inl (last, is)) = record { last = at; cause = inl (ap (λ (x : Writer). invalidations x.seen) is ∙ t.epochs_are ∙ last ∙ sym at) }
  by_cause (at, inr (high, is)) =
      let none = none_after w (emptied_by w) (emptied_tells w.seen w.cache t) refl in
      is_unmoved w' count (NoneLive w'.seen) (subst (λ (x : Writer). last_count ≤ x.cache.cycle) (sym is) high) at (subst (λ (x : Writer). NoneLive x.seen) (sym is) none)

pub rests_invalidated : {which : Db} {brought : Request → ℕ} (r : Result ℕ Spent) (w w' : Writer) → IfOk r (λ epoch. Completes (invalidated w.cache) w w') → IfErr r (λ spent. Stops (invalidated w.cache) spent.count w w') → Tells w.seen w.cache → Rests which brought w w'
rests_invalidated (Ok epoch) w w' p s t = rests_emptied w w' p t
rests_invalidated (Err spent) w w' p s t = rests_stopped w w' spent.count s t

pub all_emptied : (r : Result ℕ Spent) (w w' : Writer) → IfOk r (λ epoch. Completes (invalidated w.cache) w w') → IfOk r (λ epoch. epoch ≡ w'.cache.epoch) → IfOk r (λ _. w.cache.epoch < last_count) → Tells w.seen w.cache
    → IfOk r (λ epoch. IsEmptied w.seen w'.seen epoch)
all_emptied (Ok epoch) w w' p counted low t = completes_emptied w w' epoch p low t counted
all_emptied (Err spent) w w' p counted low t = tt

pub all_below : (r : Result ℕ Spent) (w : Writer) → IfOk r (λ _. w.cache.epoch < last_count) → Tells w.seen w.cache → IfOk r (λ _. invalidations w.seen < last_count)
all_below (Ok epoch) w low t = omega (arith, low, t.epochs_are)
all_below (Err spent) w low t = tt

pub none_emptied : (r : Result ℕ Spent) (w w' : Writer) → IfErr r (λ spent. Stops (invalidated w.cache) spent.count w w') → Tells w.seen w.cache → IfErr r (λ spent. IsUnmoved w'.seen (last_count ≤ w'.cache.cycle) spent.count (NoneLive w'.seen))
none_emptied (Ok epoch) w w' s t = tt
none_emptied (Err spent) w w' s t = stops_unmoved w w' spent.count s t

-- by one who has seen less
pub emptied_since : (seen h after : List Record) (epoch : ℕ) → IsPrefix seen h → invalidations h < last_count → IsEmptied h after epoch → IsEmptied seen after epoch
emptied_since seen h after epoch on below e =
    let low = invalidations_on seen h on in
    record { unspent = λ at_end. omega (arith, low, below, at_end); last = e.last; new = omega (arith, low, e.new); none = e.none }
