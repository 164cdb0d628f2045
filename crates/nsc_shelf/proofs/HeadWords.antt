-- A count at the table's head is set.
use Rattle.std.proofs.Common.{◌≡◌, ◌≢◌, ℕ, ◌+◌, ◌-◌, ◌<◌, ◌≤◌, Bool, true, false, cond, List, length, set, slice_index, ap, ◌∙◌, arith, get_or-set_same, get_or-set_other}
use Rattle.nsc_words.specs.declared.layout.Layout.{Layout}
use Rattle.nsc_words.specs.declared.node.Placed.{Placed}
use Rattle.nsc_words.specs.Laid.{Laid, end_of}
use Rattle.nsc_words.specs.Layout.{arena_start}
use Rattle.nsc_arena.specs.ReadBack.{nodes_in}
use Rattle.nsc_arena.proofs.ReadBack.{read_back}
use Rattle.nsc_arena.proofs.Rows.{set_head}
use Rattle.nsc_model.specs.Machine.{next_count}
use Rattle.nsc_rule.specs.Entries.{entries_in}
use Rattle.nsc_shelf.specs.declared.finding.Mark.{Mark}
use Rattle.nsc_shelf.specs.Shelf.{IsShelf, Shelf, shelf_of}
use Rattle.nsc_shelf.specs.Uses.{counted, uses_at}
use Rattle.nsc_shelf.proofs.States.{Altered, shelf_by}

-- the nodes stay, and it is this shelf then
pub record Counted (old new : List ℕ) (layout : Layout) (count : ℕ) (mark : Mark) (after : Shelf) : Type 0 where
  pub laid : Laid new layout (nodes_in old layout)
  pub altered : Altered old new layout count mark after

counted_at : (old new : List ℕ) (layout : Layout) (count : ℕ) (mark : Mark) (k value : ℕ) (after : Shelf) → 4 < k → k < 16 → new ≡ set old k value → IsShelf old layout count mark → record (shelf_of old layout) { add_failed = slice_index new 9; hits = uses_at new 5; misses = uses_at new 7 } ≡ after → Counted old new layout count mark after
counted_at old new layout count mark k value after low high set_is is same =
    let nodes : List Placed = nodes_in old layout in
    let laid = set_head old new layout nodes k value high (omega arith) set_is is.laid in
    let back = read_back new layout nodes laid in
    let e0 = other_word old new k value 0 (omega arith) set_is in
    let e4 = other_word old new k value 4 (omega arith) set_is in
    let view : shelf_of new layout ≡ record (shelf_of old layout) { add_failed = slice_index new 9; hits = uses_at new 5; misses = uses_at new 7 } = λ i. record { entries = entries_in (back i); used = end_of (arena_start layout) (back i) - arena_start layout; inserted = e4 i; cycle = e0 i; add_failed = slice_index new 9; hits = uses_at new 5; misses = uses_at new 7 } in
    record {
      laid = laid;
      altered = record { cycle = e0; epoch = other_word old new k value 1 (omega arith) set_is; source = other_word old new k value 2 (omega arith) set_is; shelf = shelf_by new layout nodes (slice_index old 4) count mark is.sizes laid is.entries e4 is.counted is.live is.marked; view = view ∙ same };
    }
  where
    other_word : (old new : List ℕ) (k value i : ℕ) → i ≢ k → new ≡ set old k value → slice_index new i ≡ slice_index old i
    other_word old new k value i n set_is = ap (λ (ws : List ℕ). slice_index ws i) set_is ∙ get_or-set_other old k i value 0 n

-- lookups that are counted by the words at a place are, and those by other words are not
use_counted : (old new : List ℕ) (not_found : Bool) (at : ℕ) → at + 1 < length old → new ≡ set old (cond not_found (at + 1) at) (next_count (slice_index old (cond not_found (at + 1) at))) → uses_at new at ≡ counted not_found (uses_at old at)
use_counted old new true at low set_is =
    let one = get_or-set_other old (at + 1) at (next_count (slice_index old (at + 1))) 0 (omega arith) in
    let two = get_or-set_same old (at + 1) (next_count (slice_index old (at + 1))) 0 low in
    ap (λ (ws : List ℕ). uses_at ws at) set_is ∙ (λ i. record { found = one i; not_found = two i })
use_counted old new false at low set_is =
    let one = get_or-set_same old at (next_count (slice_index old at)) 0 (omega arith) in
    let two = get_or-set_other old at (at + 1) (next_count (slice_index old at)) 0 (omega arith) in
    ap (λ (ws : List ℕ). uses_at ws at) set_is ∙ (λ i. record { found = one i; not_found = two i })

uses_same : (old new : List ℕ) (k value at : ℕ) → at ≢ k → at + 1 ≢ k → new ≡ set old k value → uses_at new at ≡ uses_at old at
uses_same old new k value at one two set_is =
    let a = get_or-set_other old k at value 0 one in
    let b = get_or-set_other old k (at + 1) value 0 two in
    ap (λ (ws : List ℕ). uses_at ws at) set_is ∙ (λ i. record { found = a i; not_found = b i })

place_between : (not_found : Bool) (at : ℕ) → (at ≤ cond not_found (at + 1) at) × (cond not_found (at + 1) at ≤ at + 1)
place_between true at = (omega arith, omega arith)
place_between false at = (omega arith, omega arith)

pub hit_counted : (old new : List ℕ) (layout : Layout) (count : ℕ) (mark : Mark) (not_found : Bool) → new ≡ set old (cond not_found 6 5) (next_count (slice_index old (cond not_found 6 5))) → IsShelf old layout count mark → Counted old new layout count mark (record (shelf_of old layout) { hits = counted not_found (uses_at old 5) })
hit_counted old new layout count mark not_found set_is is =
    let k : ℕ = cond not_found 6 5 in
    let value : ℕ = next_count (slice_index old k) in
    let between = place_between not_found 5 in
    let table = is.laid.table in
    let failed = ap (λ (ws : List ℕ). slice_index ws 9) set_is ∙ get_or-set_other old k 9 value 0 (omega (arith, between.1)) in
    let hits = use_counted old new not_found 5 (omega arith) set_is in
    let misses = uses_same old new k value 7 (omega (arith, between.1)) (omega (arith, between.1)) set_is in
    counted_at old new layout count mark k value _ (omega (arith, between.0)) (omega (arith, between.1)) set_is is (λ i. record (shelf_of old layout) { add_failed = failed i; hits = hits i; misses = misses i })

pub miss_counted : (old new : List ℕ) (layout : Layout) (count : ℕ) (mark : Mark) (not_found : Bool) → new ≡ set old (cond not_found 8 7) (next_count (slice_index old (cond not_found 8 7))) → IsShelf old layout count mark → Counted old new layout count mark (record (shelf_of old layout) { misses = counted not_found (uses_at old 7) })
miss_counted old new layout count mark not_found set_is is =
    let k : ℕ = cond not_found 8 7 in
    let value : ℕ = next_count (slice_index old k) in
    let between = place_between not_found 7 in
    let table = is.laid.table in
    let failed = ap (λ (ws : List ℕ). slice_index ws 9) set_is ∙ get_or-set_other old k 9 value 0 (omega (arith, between.1)) in
    let hits = uses_same old new k value 5 (omega (arith, between.0)) (omega (arith, between.0)) set_is in
    let misses = use_counted old new not_found 7 (omega arith) set_is in
    counted_at old new layout count mark k value _ (omega (arith, between.0)) (omega (arith, between.1)) set_is is (λ i. record (shelf_of old layout) { add_failed = failed i; hits = hits i; misses = misses i })

pub failure_counted : (old new : List ℕ) (layout : Layout) (count : ℕ) (mark : Mark) → new ≡ set old 9 (next_count (slice_index old 9)) → IsShelf old layout count mark → Counted old new layout count mark (record (shelf_of old layout) { add_failed = next_count (slice_index old 9) })
failure_counted old new layout count mark set_is is =
    let value : ℕ = next_count (slice_index old 9) in
    let table = is.laid.table in
    let failed = ap (λ (ws : List ℕ). slice_index ws 9) set_is ∙ get_or-set_same old 9 value 0 (omega arith) in
    let hits = uses_same old new 9 value 5 (omega arith) (omega arith) set_is in
    let misses = uses_same old new 9 value 7 (omega arith) (omega arith) set_is in
    counted_at old new layout count mark 9 value _ (omega arith) (omega arith) set_is is (λ i. record (shelf_of old layout) { add_failed = failed i; hits = hits i; misses = misses i })
