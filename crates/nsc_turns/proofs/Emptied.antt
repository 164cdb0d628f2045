-- Invalidations, with their compaction where any entry was live.
use Rattle.std.proofs.Common.{◌≡◌, ℕ, ◌<◌, ◌≤◌, ◌+◌, ◌⊎◌, inl, inr, Bool, true, false, cond, eqb, ltb, List, [], ◌∷◌, ◌++◌, length, Result, Ok, Err, refl, sym, ap, subst, ◌∙◌, arith}
use Rattle.std.proofs.lemmas.Bool.{eq-eqb, eqb-true, ltb-false}
use Rattle.nsc_model.specs.declared.record.Record.{Record}
use Rattle.nsc_model.specs.declared.record.Record.TheVariants.{Invalid}
use Rattle.nsc_model.specs.Machine.{Kept, Cache, Passed, Stopped, after_adds, all_words, by_invalidation, compacted, compacted_after, emptied, invalidated, last_count, stopped, unchanged}
use Rattle.nsc_laws.proofs.MachineLawEnds.{ends_after}
use Rattle.nsc_writer.specs.Writer.{Writer, emptied_by, passed_by}
use Rattle.nsc_turns.specs.Turns.{Completes, Stops}
use Rattle.nsc_turns.proofs.Events.{compacted_below, compacted_spent, eqb_below, completes_after, stops_after}

emptied_is : (w : Writer) → emptied_by w ≡ passed_by (emptied w.cache) w
emptied_is w = ap (λ (h : List Record). record w { cache = (emptied w.cache).cache; seen = Invalid (w.cache.epoch + 1) ∷ h }) (sym (ends_after by_invalidation w.cache.entries [] w.seen))

-- its ends, and then a compaction
abbrev pub ends_and_compacts : List Kept → Cache → Result Passed Stopped
ends_and_compacts ks cache = after_adds (emptied cache).adds (compacted_after ks (emptied cache).cache)

counted_on : (cache : Cache) → cache.epoch < last_count → invalidated cache ≡ ends_and_compacts cache.entries cache
unfolding invalidated
counted_on cache low = ap (λ (b : Bool). cond b (Err (stopped cache)) (ends_and_compacts cache.entries cache)) (eqb_below cache.epoch last_count low)

none_live : (ks : List Kept) (cache : Cache) → length ks ≡ 0 → compacted_after ks cache ≡ Ok (unchanged cache)
none_live [] cache e = refl
none_live (k ∷ ks) cache e = absurd (omega arith)

some_live : (ks : List Kept) (cache : Cache) → (length ks ≡ 0 → ⊥) → compacted_after ks cache ≡ compacted cache
some_live [] cache e = absurd (e refl)
some_live (k ∷ ks) cache e = refl

-- where no entry was live
pub empties : (w w' : Writer) → w.cache.epoch < last_count → w' ≡ emptied_by w → length w.cache.entries ≡ 0 → Completes (invalidated w.cache) w w'
empties w w' low is none =
    let e = counted_on w.cache low ∙ ap (after_adds (emptied w.cache).adds) (none_live w.cache.entries (emptied w.cache).cache none) in
    subst (λ (r : Result Passed Stopped). Completes r w w') (sym e) (completes_after (Ok (unchanged (emptied w.cache).cache)) (emptied w.cache) w w' w' (is ∙ emptied_is w) (ap (λ (x : Writer). record w' { cache = x.cache }) is))

-- where one was
pub empties_some : (w w' w'' : Writer) → w.cache.epoch < last_count → w' ≡ emptied_by w → (length w.cache.entries ≡ 0 → ⊥) → w'.cache.cycle < last_count → w'' ≡ record w' { cache = record w'.cache { cycle = w'.cache.cycle + 2; used = all_words w'.cache.entries } } → Completes (invalidated w.cache) w w''
empties_some w w' w'' low is some more compact =
    let cycle = ap (λ (x : Writer). x.cache.cycle) is in
    let e = counted_on w.cache low ∙ ap (after_adds (emptied w.cache).adds) (some_live w.cache.entries (emptied w.cache).cache some ∙ compacted_below (emptied w.cache).cache (subst (λ (n : ℕ). n < last_count) cycle more)) in
    subst (λ (r : Result Passed Stopped). Completes r w w'') (sym e)
    (completes_after (Ok (unchanged (record (emptied w.cache).cache { cycle = w.cache.cycle + 2; used = all_words [] }))) (emptied w.cache) w w' w'' (is ∙ emptied_is w)
    (compact ∙ ap (λ (x : Writer). record w' { cache = record x.cache { cycle = x.cache.cycle + 2; used = all_words x.cache.entries } }) is))

-- where the count of the beginnings and the ends of slides stands at its end
pub empties_spent : (w w' w'' : Writer) (count : ℕ) → w.cache.epoch < last_count → w' ≡ emptied_by w → (length w.cache.entries ≡ 0 → ⊥) → w'.cache.cycle ≡ last_count → count ≡ last_count → w'' ≡ w' → Stops (invalidated w.cache) count w w''
empties_spent w w' w'' count low is some last at same =
    let cycle = ap (λ (x : Writer). x.cache.cycle) is in
    let high : last_count ≤ w.cache.cycle = omega arith in
    let e = counted_on w.cache low ∙ ap (after_adds (emptied w.cache).adds) (some_live w.cache.entries (emptied w.cache).cache some ∙ compacted_spent (emptied w.cache).cache high) in
    subst (λ (r : Result Passed Stopped). Stops r count w w'') (sym e) (stops_after (Err (stopped (emptied w.cache).cache)) (emptied w.cache) count w w' w'' (is ∙ emptied_is w) (at, same ∙ ap (λ (x : Writer). record w' { cache = x.cache }) is))

-- where the count of invalidations does
pub empties_none : (w w' : Writer) (count : ℕ) → w.cache.epoch ≡ last_count → count ≡ last_count → w' ≡ w → Stops (invalidated w.cache) count w w'
unfolding invalidated
empties_none w w' count last at same =
    let e = ap (λ (b : Bool). cond b (Err (stopped w.cache)) (ends_and_compacts w.cache.entries w.cache)) (eq-eqb w.cache.epoch last_count last) in
    subst (λ (r : Result Passed Stopped). Stops r count w w') (sym e) (at, same)

-- ---- what it leaves

-- every entry ended, and there was a compaction where any was live
abbrev pub IsLeft : Writer → Writer → Type 0
IsLeft w w' = ((length w.cache.entries ≡ 0) × (w' ≡ emptied_by w)) ⊎ ((1 ≤ length w.cache.entries) × (w' ≡ record (emptied_by w) { cache = record (emptied w.cache).cache { cycle = w.cache.cycle + 2; used = all_words [] } }))

pub completes_left : (w w' : Writer) → Completes (invalidated w.cache) w w' → IsLeft w w'
unfolding invalidated
completes_left w w' p = by_epoch (eqb w.cache.epoch last_count) p where
  again : (cache : Cache) → record w { cache = cache; seen = (emptied w.cache).adds ++ w.seen } ≡ record (emptied_by w) { cache = cache }
  again cache = ap (λ (x : Writer). record x { cache = cache }) (sym (emptied_is w))

  by_cycle : (b : Bool) → Completes (after_adds (emptied w.cache).adds (cond b (Ok (unchanged (record (emptied w.cache).cache { cycle = w.cache.cycle + 2; used = all_words [] }))) (Err (stopped (emptied w.cache).cache)))) w w' → w' ≡ record (emptied_by w) { cache = record (emptied w.cache).cache { cycle = w.cache.cycle + 2; used = all_words [] } }
  by_cycle true q = q ∙ again (record (emptied w.cache).cache { cycle = w.cache.cycle + 2; used = all_words [] })
  by_cycle false q = absurd q

  by_entries : (ks : List Kept) → Completes (ends_and_compacts ks w.cache) w w' → ((length ks ≡ 0) × (w' ≡ emptied_by w)) ⊎ ((1 ≤ length ks) × (w' ≡ record (emptied_by w) { cache = record (emptied w.cache).cache { cycle = w.cache.cycle + 2; used = all_words [] } }))
  by_entries [] q = inl (refl, q ∙ again (emptied w.cache).cache)
  by_entries (k ∷ ks) q = inr (omega arith, by_cycle (ltb w.cache.cycle last_count) q)

  by_epoch : (b : Bool) → Completes (cond b (Err (stopped w.cache)) (ends_and_compacts w.cache.entries w.cache)) w w' → IsLeft w w'
  by_epoch true q = absurd q
  by_epoch false q = by_entries w.cache.entries q

-- where it stops: a count stands at its end
abbrev pub IsStopped : Writer → ℕ → Writer → Type 0
IsStopped w count w' = (count ≡ last_count) × (((w.cache.epoch ≡ last_count) × (w' ≡ w)) ⊎ ((last_count ≤ w.cache.cycle) × (w' ≡ emptied_by w)))

pub stops_left : (w w' : Writer) (count : ℕ) → Stops (invalidated w.cache) count w w' → IsStopped w count w'
unfolding invalidated
stops_left w w' count s = by_epoch (eqb w.cache.epoch last_count) refl s where
  by_cycle : (b : Bool) → ltb w.cache.cycle last_count ≡ b → Stops (after_adds (emptied w.cache).adds (cond b (Ok (unchanged (record (emptied w.cache).cache { cycle = w.cache.cycle + 2; used = all_words [] }))) (Err (stopped (emptied w.cache).cache)))) count w w' → IsStopped w count w'
  by_cycle true e q = absurd q
  by_cycle false e q = (q.0, inr (ltb-false w.cache.cycle last_count e, q.1 ∙ sym (emptied_is w)))

  by_entries : (ks : List Kept) → Stops (ends_and_compacts ks w.cache) count w w' → IsStopped w count w'
  by_entries [] q = absurd q
  by_entries (k ∷ ks) q = by_cycle (ltb w.cache.cycle last_count) refl q

  by_epoch : (b : Bool) → eqb w.cache.epoch last_count ≡ b → Stops (cond b (Err (stopped w.cache)) (ends_and_compacts w.cache.entries w.cache)) count w w' → IsStopped w count w'
  by_epoch true e q = (q.0, inl (eqb-true w.cache.epoch last_count e, q.1))
  by_epoch false e q = by_entries w.cache.entries q

-- the newest content stays
pub sources_left : (w w' : Writer) → Completes (invalidated w.cache) w w' → w'.cache.sources ≡ w.cache.sources
sources_left w w' p = elim (completes_left w w' p) [ inl (none, is) ↦ ap (λ (x : Writer). x.cache.sources) is | inr (some, is) ↦ ap (λ (x : Writer). x.cache.sources) is ]

pub sources_stopped : (w w' : Writer) (count : ℕ) → Stops (invalidated w.cache) count w w' → w'.cache.sources ≡ w.cache.sources
sources_stopped w w' count s = elim (stops_left w w' count s).1 [ inl (last, is) ↦ ap (λ (x : Writer). x.cache.sources) is | inr (high, is) ↦ ap (λ (x : Writer). x.cache.sources) is ]
