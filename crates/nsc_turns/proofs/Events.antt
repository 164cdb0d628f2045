-- Events of the machine over a writer.
use Rattle.std.proofs.Common.{◌≡◌, ℕ, ◌<◌, ◌≤◌, ◌+◌, Bool, true, false, cond, eqb, List, append_assoc, Option, Some, Result, Ok, Err, refl, sym, ap, subst, ◌∙◌, arith}
use Rattle.std.proofs.lemmas.Bool.{eqb-true, le-ltb, lt-ltb}
use Rattle.nsc_model.specs.declared.record.Record.{Record}
use Rattle.nsc_model.specs.Machine.{Cache, Passed, Refusal, Stopped, ◌>>=◌, after_adds, all_words, compacted, last_count, stopped, tried_by, unchanged}
use Rattle.nsc_writer.specs.declared.loaded.Inserted.{Inserted}
use Rattle.nsc_writer.specs.declared.loaded.Inserted.TheVariants as inserted
use Rattle.nsc_writer.specs.Loaded.{Loaded, kept_of}
use Rattle.nsc_writer.specs.Writer.{Inserts, Writer, passed_by, refusal_of}
use Rattle.nsc_turns.specs.Turns.{Completes, Stops, tried_on}

-- ---- a number below its end

pub eqb_below : (n m : ℕ) → n < m → eqb n m ≡ false
eqb_below n m low = by_test (eqb n m) refl where
  by_test : (b : Bool) → eqb n m ≡ b → b ≡ false
  by_test true e = let same = eqb-true n m e in absurd (omega arith)
  by_test false e = refl

-- ---- compactions

pub compacted_below : (cache : Cache) → cache.cycle < last_count → compacted cache ≡ Ok (unchanged (record cache { cycle = cache.cycle + 2; used = all_words cache.entries }))
compacted_below cache low = ap (λ (b : Bool). cond b (Ok (unchanged (record cache { cycle = cache.cycle + 2; used = all_words cache.entries }))) (Err (stopped cache))) (lt-ltb cache.cycle last_count low)

pub compacted_spent : (cache : Cache) → last_count ≤ cache.cycle → compacted cache ≡ Err (stopped cache)
compacted_spent cache high = ap (λ (b : Bool). cond b (Ok (unchanged (record cache { cycle = cache.cycle + 2; used = all_words cache.entries }))) (Err (stopped cache))) (le-ltb cache.cycle last_count high)

-- ---- one event after the other

pub completes_after : (r : Result Passed Stopped) (first : Passed) (w mid after : Writer) → mid ≡ passed_by first w → Completes r mid after → Completes (after_adds first.adds r) w after
completes_after (Ok passed) first w mid after is p = p ∙ ap (λ (x : Writer). passed_by passed x) is ∙ ap (λ (h : List Record). record w { cache = passed.cache; seen = h }) (sym (append_assoc passed.adds first.adds w.seen))
completes_after (Err stop) first w mid after is p = p

pub stops_after : (r : Result Passed Stopped) (first : Passed) (count : ℕ) (w mid after : Writer) → mid ≡ passed_by first w → Stops r count mid after → Stops (after_adds first.adds r) count w after
stops_after (Ok passed) first count w mid after is s = s
stops_after (Err stop) first count w mid after is s =
    (s.0, s.1 ∙ ap (λ (x : Writer). passed_by (record { cache = stop.cache; adds = stop.adds }) x) is ∙ ap (λ (h : List Record). record w { cache = stop.cache; seen = h }) (sym (append_assoc stop.adds first.adds w.seen)))

pub completes_then : (r : Result Passed Stopped) (next : Cache → Result Passed Stopped) (w mid after : Writer) → Completes r w mid → Completes (next mid.cache) mid after → Completes (r >>= next) w after
completes_then (Ok first) next w mid after p q = completes_after (next first.cache) first w mid after p (subst (λ (c : Cache). Completes (next c) mid after) (ap (λ (x : Writer). x.cache) p) q)
completes_then (Err stop) next w mid after p q = p

pub stops_then : (r : Result Passed Stopped) (next : Cache → Result Passed Stopped) (count : ℕ) (w mid after : Writer) → Completes r w mid → Stops (next mid.cache) count mid after → Stops (r >>= next) count w after
stops_then (Ok first) next count w mid after p s = stops_after (next first.cache) first count w mid after p (subst (λ (c : Cache). Stops (next c) count mid after) (ap (λ (x : Writer). x.cache) p) s)
stops_then (Err stop) next count w mid after p s = absurd p

pub stops_first : (r : Result Passed Stopped) (next : Cache → Result Passed Stopped) (count : ℕ) (w after : Writer) → Stops r count w after → Stops (r >>= next) count w after
stops_first (Ok first) next count w after s = absurd s
stops_first (Err stop) next count w after s = s

-- ---- insertions

tried_as : (refused : Refusal) (l : Loaded) (w w' : Writer) → refusal_of w l ≡ Some refused → w' ≡ passed_by (tried_by (Some refused) (kept_of l w.cache.inserted) w.cache) w → w' ≡ tried_on l w
tried_as refused l w w' why is = is ∙ sym (ap (λ (r : Option Refusal). passed_by (tried_by r (kept_of l w.cache.inserted) w.cache) w) why)

pub inserts_tried : (said : Inserted) (l : Loaded) (w w' : Writer) → Inserts said l w w' → w' ≡ tried_on l w
inserts_tried (inserted.Done number) l w w' i = i.2 ∙ sym (ap (λ (r : Option Refusal). passed_by (tried_by r (kept_of l w.cache.inserted) w.cache) w) i.0)
inserts_tried (inserted.TooLarge size) l w w' i = tried_as _ l w w' i.0 i.1
inserts_tried (inserted.Discarded noted epoch) l w w' i = tried_as _ l w w' i.0 i.1
inserts_tried (inserted.Present number) l w w' i = tried_as _ l w w' i.0 i.1
inserts_tried (inserted.Spent count) l w w' i = tried_as _ l w w' i.0 i.1
inserts_tried (inserted.Full need free) l w w' i = tried_as _ l w w' i.0 i.1
