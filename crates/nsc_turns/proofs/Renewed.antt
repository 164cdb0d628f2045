-- The ends of a tick with their compaction, and what is loaded again after them.
use Rattle.std.proofs.Common.{◌≡◌, ℕ, suc, ◌+◌, ◌<◌, ◌≤◌, Bool, true, false, cond, ltb, All, List, [], ◌∷◌, drop, get_or, length, Option, Some, None, Ok, Err, refl, sym, ap, subst, ◌∙◌, arith}
use Rattle.std.specs.Bool.{OnFalse, OnTrue}
use Rattle.std.specs.Prelude.{IfSome}
use Rattle.std.proofs.lemmas.Bool.{ltb-false}
use Rattle.nsc_model.specs.declared.record.Record.{Record}
use Rattle.nsc_model.specs.declared.record.Record.TheVariants.{End, Load}
use Rattle.nsc_model.specs.History.{IsPrefix, Legal}
use Rattle.nsc_model.specs.Machine.{Cache, all_words, compacted, last_count, stopped, unchanged}
use Rattle.nsc_laws.specs.Calls.{Tells}
use Rattle.nsc_pruner.specs.Due.{Due, due_cause_of, marked_by, pruned_by, pruned_one}
use Rattle.nsc_pruner.proofs.Pruned.{split_at}
use Rattle.nsc_shelf.specs.Shelf.{has_number}
use Rattle.nsc_writer.specs.declared.loaded.Inserted.{Inserted}
use Rattle.nsc_writer.specs.declared.loaded.Inserted.TheVariants as inserted
use Rattle.nsc_writer.specs.Loaded.{Loaded, kept_of}
use Rattle.nsc_writer.specs.Writer.{Inserts, IsAnswered, IsRefused, Writer, ending_of, without_entry}
use Rattle.nsc_writer.proofs.Later.{polled_on, prefix_through, version_on}
use Rattle.nsc_turns.specs.Turns.{Completes, Stops}
use Rattle.nsc_turns.specs.Ticks.{Reloads, ReloadsOne, Renews, compacted_for, ended_of}

-- ---- what is answered stays so

pub answered_on : (seen h : List Record) (loaded : Loaded) → Legal h → Legal seen → IsPrefix seen h → IsAnswered seen loaded → IsAnswered h loaded
answered_on seen h loaded legal legal_seen p a = record {
  files = a.files;
  version = version_on seen h loaded.stamp.version a.files legal legal_seen p a.version;
  answer = a.answer;
  polled = polled_on seen h loaded.stamp.version loaded.stamp.epoch p a.polled;
}

some_on : (seen h : List Record) (load : Option Loaded) → Legal h → Legal seen → IsPrefix seen h → IfSome load (IsAnswered seen) → IfSome load (IsAnswered h)
some_on seen h None legal legal_seen p a = a
some_on seen h (Some l) legal legal_seen p a = answered_on seen h l legal legal_seen p a

pub all_on : (seen h : List Record) (loads : List (Option Loaded)) → Legal h → Legal seen → IsPrefix seen h → All (λ load. IfSome load (IsAnswered seen)) loads → All (λ load. IfSome load (IsAnswered h)) loads
all_on seen h loads legal legal_seen p all i d low = some_on seen h (get_or loads i d) legal legal_seen p (all i d low)

-- ---- ends

-- what the ends, the compaction and the insertions of a tick leave of a writer: its history goes on, and it has the same words, the same
-- newest version and the same count of invalidations
pub record Leaves (w w' : Writer) : Type 0 where
  pub on : IsPrefix w.seen w'.seen
  pub table : w'.table ≡ w.table
  pub slide : w'.slide ≡ w.slide
  pub layout : w'.layout ≡ w.layout
  pub version : w'.cache.newest_version ≡ w.cache.newest_version
  pub sources : w'.cache.sources ≡ w.cache.sources
  pub epoch : w'.cache.epoch ≡ w.cache.epoch

leaves_all : (w : Writer) → Leaves w w
leaves_all w = record { on = ([], refl); table = refl; slide = refl; layout = refl; version = refl; sources = refl; epoch = refl }

pub leaves_same : (w w' : Writer) → w' ≡ w → Leaves w w'
leaves_same w w' is = subst (Leaves w) (sym is) (leaves_all w)

pub leaves_through : (a b c : Writer) → Leaves a b → Leaves b c → Leaves a c
leaves_through a b c l m = record {
  on = prefix_through a.seen b.seen c.seen l.on m.on;
  table = m.table ∙ l.table;
  slide = m.slide ∙ l.slide;
  layout = m.layout ∙ l.layout;
  version = m.version ∙ l.version;
  sources = m.sources ∙ l.sources;
  epoch = m.epoch ∙ l.epoch;
}

leaves_one : (now : ℕ) (d : Due) (w : Writer) → Leaves w (pruned_one now d w)
leaves_one now d w = by_test (has_number d.number w.cache.entries) where
  by_test : (b : Bool) → Leaves w (cond b (without_entry d.number (ending_of (due_cause_of now d)) w) w)
  by_test true = record { on = (End d.number (ending_of (due_cause_of now d)) ∷ [], refl); table = refl; slide = refl; layout = refl; version = refl; sources = refl; epoch = refl }
  by_test false = leaves_all w

pub leaves_pruned : (now : ℕ) (due : List Due) (w : Writer) → Leaves w (pruned_by now due w)
leaves_pruned now [] w = leaves_all w
leaves_pruned now (d ∷ due) w = leaves_through w (pruned_one now d w) (pruned_by now due (pruned_one now d w)) (leaves_one now d w) (leaves_pruned now due (pruned_one now d w))

pub length_marked : (now : ℕ) (due : List Due) (w : Writer) → length (marked_by now due w) ≡ length due
length_marked now [] w = refl
length_marked now (d ∷ due) w = ap (λ (n : ℕ). suc n) (length_marked now due (pruned_one now d w))

-- ---- compactions

pub none_ended : (ended : List Due) (cache : Cache) → length ended ≡ 0 → compacted_for ended cache ≡ Ok (unchanged cache)
none_ended [] cache e = refl
none_ended (d ∷ ended) cache e = absurd (omega arith)

pub some_ended : (ended : List Due) (cache : Cache) → (length ended ≡ 0 → ⊥) → compacted_for ended cache ≡ compacted cache
some_ended [] cache e = absurd (e refl)
some_ended (d ∷ ended) cache e = refl

pub leaves_compacted : (ended : List Due) (w w' : Writer) → Completes (compacted_for ended w.cache) w w' → Leaves w w'
leaves_compacted [] w w' p = leaves_same w w' p
leaves_compacted (d ∷ ended) w w' p = by_cycle (ltb w.cache.cycle last_count) p where
  by_cycle : (b : Bool) → Completes (cond b (Ok (unchanged (record w.cache { cycle = w.cache.cycle + 2; used = all_words w.cache.entries }))) (Err (stopped w.cache))) w w' → Leaves w w'
  by_cycle true q = subst (Leaves w) (sym q) (record { on = ([], refl); table = refl; slide = refl; layout = refl; version = refl; sources = refl; epoch = refl })
  by_cycle false q = absurd q

-- where it stops, the count of the beginnings and the ends of slides stands at its end
pub record Spends (count : ℕ) (w w' : Writer) : Type 0 where
  pub at : count ≡ last_count
  pub high : last_count ≤ w'.cache.cycle
  pub same : w' ≡ w

pub spends : (ended : List Due) (count : ℕ) (w w' : Writer) → Stops (compacted_for ended w.cache) count w w' → Spends count w w'
spends [] count w w' s = absurd s
spends (d ∷ ended) count w w' s = by_cycle (ltb w.cache.cycle last_count) refl s where
  by_cycle : (b : Bool) → ltb w.cache.cycle last_count ≡ b → Stops (cond b (Ok (unchanged (record w.cache { cycle = w.cache.cycle + 2; used = all_words w.cache.entries }))) (Err (stopped w.cache))) count w w' → Spends count w w'
  by_cycle true e q = absurd q
  by_cycle false e q = record { at = q.0; high = subst (λ (x : Writer). last_count ≤ x.cache.cycle) (sym q.1) (ltb-false w.cache.cycle last_count e); same = q.1 }

-- ---- what is loaded again

-- what is loaded again so far: whatever the rest makes of this writer, the whole makes of the first one
pub record ReloadsOn (due : List Due) (loads : List (Option Loaded)) (before : Writer) (at : ℕ) (w : Writer) : Type 0 where
  pub leaves : Leaves before w
  pub rest : (after : Writer) → Reloads (drop at due) (drop at loads) w after → Reloads due loads before after

pub none_reloaded : (due : List Due) (loads : List (Option Loaded)) (w : Writer) → ReloadsOn due loads w 0 w
none_reloaded due loads w = record { leaves = leaves_all w; rest = λ after r. r }

pub last_reloaded : (due : List Due) (w : Writer) → Reloads due [] w w
last_reloaded [] w = refl
last_reloaded (d ∷ due) w = refl

pub leaves_inserted : (said : Inserted) (l : Loaded) (w w' : Writer) → Inserts said l w w' → Leaves w w'
leaves_inserted (inserted.Done number) l w w' i = subst (Leaves w) (sym i.2) (record { on = (Load (kept_of l w.cache.inserted).entry ∷ [], refl); table = refl; slide = refl; layout = refl; version = refl; sources = refl; epoch = refl })
leaves_inserted (inserted.TooLarge size) l w w' i = leaves_same w w' i.1
leaves_inserted (inserted.Discarded noted epoch) l w w' i = leaves_same w w' i.1
leaves_inserted (inserted.Present number) l w w' i = leaves_same w w' i.1
leaves_inserted (inserted.Spent count) l w w' i = leaves_same w w' i.1
leaves_inserted (inserted.Full need free) l w w' i = subst (Leaves w) (sym i.1) (record { on = ([], refl); table = refl; slide = refl; layout = refl; version = refl; sources = refl; epoch = refl })

-- one that was ended, and one that was not
pub one_ended : (said : Inserted) (l : Loaded) (d : Due) (w w' : Writer) → d.ended ≡ true → Inserts said l w w' → IsRefused said l w → Tells w.seen w.cache → ReloadsOne d (Some l) w w'
one_ended said l d w w' on inserts why told = subst (λ (b : Bool). OnTrue b ((x : Inserted) × Inserts x l w w' × IsRefused x l w × Tells w.seen w.cache) × OnFalse b (w' ≡ w)) (sym on) ((said, inserts, why, told), tt)

pub one_passed : (l : Loaded) (d : Due) (w : Writer) → d.ended ≡ false → ReloadsOne d (Some l) w w
one_passed l d w off = subst (λ (b : Bool). OnTrue b ((x : Inserted) × Inserts x l w w × IsRefused x l w × Tells w.seen w.cache) × OnFalse b (w ≡ w)) (sym off) (tt, refl)

-- one more
pub one_reloaded : (due : List Due) (loads : List (Option Loaded)) (before : Writer) (at : ℕ) (d : Due) (load : Option Loaded) (w w' : Writer) → length loads ≤ length due → at < length loads → ReloadsOn due loads before at w → Leaves w w' → ReloadsOne (get_or due at d) (get_or loads at load) w w' → ReloadsOn due loads before (at + 1) w'
one_reloaded due loads before at d load w w' many low r leaves one = record {
  leaves = leaves_through before w w' r.leaves leaves;
  rest = λ after more.
      let ds = split_at due at d (omega arith) in
      let ls = split_at loads at load low in
      r.rest after (subst (λ (x : List Due × List (Option Loaded)). Reloads x.0 x.1 w after) (λ i. (sym ds i, sym ls i)) (w', one, more));
}

-- ---- all of it

leaves_reloaded_one : (d : Due) (load : Option Loaded) (w w' : Writer) → ReloadsOne d load w w' → Leaves w w'
leaves_reloaded_one d None w w' same = leaves_same w w' same
leaves_reloaded_one d (Some l) w w' one = by_ended d.ended one where
  by_ended : (b : Bool) → OnTrue b ((x : Inserted) × Inserts x l w w' × IsRefused x l w × Tells w.seen w.cache) × OnFalse b (w' ≡ w) → Leaves w w'
  by_ended true ((said, inserts, why, told), none) = leaves_inserted said l w w' inserts
  by_ended false (none, same) = leaves_same w w' same

leaves_reloaded : (due : List Due) (loads : List (Option Loaded)) (w w' : Writer) → Reloads due loads w w' → Leaves w w'
leaves_reloaded [] loads w w' r = leaves_same w w' r
leaves_reloaded (d ∷ due) [] w w' r = leaves_same w w' r
leaves_reloaded (d ∷ due) (load ∷ loads) w w' r = leaves_through w r.0 w' (leaves_reloaded_one d load w r.0 r.1) (leaves_reloaded due loads r.0 w' r.2)

pub leaves_renewed : (now : ℕ) (due : List Due) (loads : List (Option Loaded)) (w w' : Writer) → Renews now due loads w w' → Leaves w w'
leaves_renewed now due loads w w' r =
    let w1 = pruned_by now due w in
    leaves_through w w1 w' (leaves_pruned now due w) (leaves_through w1 r.0 w' (leaves_compacted (ended_of (marked_by now due w)) w1 r.0 r.1) (leaves_reloaded (marked_by now due w) loads r.0 w' r.2))
