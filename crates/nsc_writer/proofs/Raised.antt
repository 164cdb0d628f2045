-- Lookups that live entries answered are counted.
use Rattle.std.proofs.Common.{◌≡◌, ◌≢◌, ℕ, ◌+◌, ◌-◌, ◌<◌, List, None, set, slice_index, refl, ap, ◌∙◌, arith, get_or-set_same, get_or-set_other}
use Rattle.std.specs.Prelude.{min}
use Rattle.nsc_words.specs.declared.layout.Layout.{Layout}
use Rattle.nsc_words.specs.declared.node.Placed.{Placed}
use Rattle.nsc_words.specs.Laid.{end_of}
use Rattle.nsc_words.specs.Layout.{arena_start}
use Rattle.nsc_arena.specs.ReadBack.{nodes_in}
use Rattle.nsc_arena.proofs.ReadBack.{read_back}
use Rattle.nsc_arena.proofs.Rows.{set_head}
use Rattle.nsc_model.specs.Machine.{last_count}
use Rattle.nsc_rule.specs.declared.view.Plan.{Plan}
use Rattle.nsc_rule.specs.Entries.{entries_in}
use Rattle.nsc_rule.specs.Strokes.{stored}
use Rattle.nsc_shelf.specs.declared.finding.Mark.{Mark}
use Rattle.nsc_shelf.specs.Shelf.{IsHeld, IsShelf, Shelf, shelf_of, slide_of}
use Rattle.nsc_shelf.specs.Uses.{Uses, uses_at}
use Rattle.nsc_shelf.proofs.HeadWords.{Counted}
use Rattle.nsc_shelf.proofs.States.{shelf_by}
use Rattle.nsc_shelf.proofs.Still.{Moved, counted_moved, still}
use Rattle.nsc_writer.specs.Raised.{raised}

-- the count of hits of a plan is set, of found and of not-found replies one after the other
abbrev pub found_stored : ℕ → Plan → Plan
found_stored found plan = stored 5 (min (slice_index plan.words 5 + found) last_count) plan

abbrev pub both_stored : ℕ → ℕ → Plan → Plan
both_stored found not_found plan =
    let one = found_stored found plan in
    stored 6 (min (slice_index one.words 6 + not_found) last_count) one

other_word : (old new : List ℕ) (k value i : ℕ) → i ≢ k → new ≡ set old k value → slice_index new i ≡ slice_index old i
other_word old new k value i n set_is = ap (λ (ws : List ℕ). slice_index ws i) set_is ∙ get_or-set_other old k i value 0 n

-- one of the two words that count hits is set: the nodes stay, and it is the shelf with these hits then
hits_set : (old new : List ℕ) (layout : Layout) (count : ℕ) (mark : Mark) (k value : ℕ) (hits : Uses) → 4 < k → k < 7 → new ≡ set old k value → uses_at new 5 ≡ hits → IsShelf old layout count mark → Counted old new layout count mark (record (shelf_of old layout) { hits = hits })
hits_set old new layout count mark k value hits low high set_is counts is =
    let nodes : List Placed = nodes_in old layout in
    let laid = set_head old new layout nodes k value (omega arith) (omega arith) set_is is.laid in
    let back = read_back new layout nodes laid in
    let e0 = other_word old new k value 0 (omega arith) set_is in
    let e4 = other_word old new k value 4 (omega arith) set_is in
    let e7 = other_word old new k value 7 (omega arith) set_is in
    let e8 = other_word old new k value 8 (omega arith) set_is in
    let e9 = other_word old new k value 9 (omega arith) set_is in
    record {
      laid = laid;
      altered = record {
        cycle = e0;
        epoch = other_word old new k value 1 (omega arith) set_is;
        source = other_word old new k value 2 (omega arith) set_is;
        shelf = shelf_by new layout nodes (slice_index old 4) count mark is.sizes laid is.entries e4 is.counted is.live is.marked;
        view = λ i. record { entries = entries_in (back i); used = end_of (arena_start layout) (back i) - arena_start layout; inserted = e4 i; cycle = e0 i; add_failed = e9 i; hits = counts i; misses = record { found = e7 i; not_found = e8 i } };
      };
    }

found_set : (old : List ℕ) (layout : Layout) (count : ℕ) (mark : Mark) (value : ℕ) → IsShelf old layout count mark → Counted old (set old 5 value) layout count mark (record (shelf_of old layout) { hits = record { found = value; not_found = slice_index old 6 } })
found_set old layout count mark value is =
    let table = is.laid.table in
    let one = get_or-set_same old 5 value 0 (omega arith) in
    let two = get_or-set_other old 5 6 value 0 (omega arith) in
    hits_set old (set old 5 value) layout count mark 5 value _ (omega arith) (omega arith) refl (λ i. record { found = one i; not_found = two i }) is

not_found_set : (old : List ℕ) (layout : Layout) (count : ℕ) (mark : Mark) (value : ℕ) → IsShelf old layout count mark → Counted old (set old 6 value) layout count mark (record (shelf_of old layout) { hits = record { found = slice_index old 5; not_found = value } })
not_found_set old layout count mark value is =
    let table = is.laid.table in
    let one = get_or-set_other old 6 5 value 0 (omega arith) in
    let two = get_or-set_same old 6 value 0 (omega arith) in
    hits_set old (set old 6 value) layout count mark 6 value _ (omega arith) (omega arith) refl (λ i. record { found = one i; not_found = two i }) is

-- where no slide is under way, both counts are raised then, and nothing else
pub both_moved : {plan : Plan} {layout : Layout} {count : ℕ} {mark : Mark} {hints : List ℕ} (found not_found : ℕ) → slide_of plan.words ≡ None → IsHeld plan layout count mark hints → Moved plan (both_stored found not_found plan) layout count mark hints (λ s. record s { hits = raised found not_found s.hits })
both_moved {plan} {layout} {count} {mark} {hints} found not_found none held =
    let rests = still none held in
    let by_found : Shelf → Shelf = λ s. record s { hits = record { found = min (s.hits.found + found) last_count; not_found = s.hits.not_found } } in
    let by_not_found : Shelf → Shelf = λ s. record s { hits = record { found = s.hits.found; not_found = min (s.hits.not_found + not_found) last_count } } in
    let one : Moved plan (found_stored found plan) layout count mark hints by_found = counted_moved 5 _ by_found rests (found_set plan.words layout count mark _ rests.shelf) in
    let later = still (one.going ∙ none) one.held in
    let two : Moved (found_stored found plan) (both_stored found not_found plan) layout count mark hints by_not_found = counted_moved 6 _ by_not_found later (not_found_set (found_stored found plan).words layout count mark _ later.shelf) in
    record { held = two.held; view = two.view ∙ ap by_not_found one.view; going = two.going ∙ one.going; epoch = two.epoch ∙ one.epoch; source = two.source ∙ one.source }
