-- A plan while no slide is under way.
use Rattle.std.proofs.Common.{◌≡◌, ◌≢◌, ℕ, ◌%◌, ◌<◌, ◌≤◌, Bool, true, false, cond, eqb, List, length, Some, None, set, slice_index, refl, sym, ap, subst, ◌∙◌, arith, get_or-set_other}
use Rattle.std.proofs.lemmas.Bool.{eqb-false, eqb-true}
use Rattle.nsc_words.specs.declared.layout.Layout.{Layout}
use Rattle.nsc_words.specs.declared.node.Placed.{Placed}
use Rattle.nsc_words.specs.Laid.{Laid}
use Rattle.nsc_arena.specs.Changes.{IsFirst, IsMark, IsNodeAt, head_of}
use Rattle.nsc_arena.specs.ReadBack.{nodes_in}
use Rattle.nsc_arena.proofs.ReadBack.{read_back}
use Rattle.nsc_arena.proofs.Rows.{node_at, set_head}
use Rattle.nsc_model.specs.declared.record.Record.{Record}
use Rattle.nsc_model.specs.Machine.{last_count}
use Rattle.nsc_rule.specs.declared.view.Plan.{Plan}
use Rattle.nsc_rule.specs.Entries.{entries_in, kept_in}
use Rattle.nsc_rule.specs.Plans.{IsEven}
use Rattle.nsc_rule.specs.Strokes.{stored}
use Rattle.nsc_shelf.specs.declared.finding.Found.{Found}
use Rattle.nsc_shelf.specs.declared.finding.Mark.{Mark}
use Rattle.nsc_shelf.specs.Finding.{IsOldest}
use Rattle.nsc_shelf.specs.Hints.{AreHints}
use Rattle.nsc_shelf.specs.Shelf.{AreEntries, IsHeld, IsShelf, Shelf, entry_from, shelf_in, shelf_of, slide_of}
use Rattle.nsc_shelf.proofs.HeadWords.{Counted}
use Rattle.nsc_shelf.proofs.Numbers.{found_entry, found_none}
use Rattle.nsc_shelf.proofs.States.{Altered, shelf_by}

-- CYCLE is even where no slide is under way
pub slide_none : (words : List ℕ) → slice_index words 0 % 2 ≡ 0 → slide_of words ≡ None
slide_none words even = ap (λ (n : ℕ). cond (eqb n 0) None (Some words)) even

pub none_even : (words : List ℕ) → slide_of words ≡ None → slice_index words 0 % 2 ≡ 0
none_even words none = by (eqb (slice_index words 0 % 2) 0) refl none where
  by : (b : Bool) → eqb (slice_index words 0 % 2) 0 ≡ b → cond b None (Some words) ≡ None → slice_index words 0 % 2 ≡ 0
  by true t e = eqb-true (slice_index words 0 % 2) 0 t
  by false t e = absurd cc

pub some_odd : (words held : List ℕ) → slide_of words ≡ Some held → (slice_index words 0 % 2 ≡ 1) × (words ≡ held)
some_odd words held going = by (eqb (slice_index words 0 % 2) 0) refl going where
  by : (b : Bool) → eqb (slice_index words 0 % 2) 0 ≡ b → cond b None (Some words) ≡ Some held → (slice_index words 0 % 2 ≡ 1) × (words ≡ held)
  by true t e = absurd cc
  by false t e = (let other = eqb-false (slice_index words 0 % 2) 0 t in omega arith, cc)

-- the words are then those of a shelf, and hold the plan's nodes
pub record Rests (plan : Plan) (layout : Layout) (count : ℕ) (mark : Mark) (hints : List ℕ) : Type 0 where
  pub even : IsEven plan
  pub laid_out : plan.layout ≡ layout
  pub settled : plan.counted ≡ true
  pub back : nodes_in plan.words layout ≡ plan.nodes
  pub laid : Laid plan.words layout plan.nodes
  pub shelf : IsShelf plan.words layout count mark
  pub hinted : AreHints hints layout plan.nodes

pub still : {plan : Plan} {layout : Layout} {count : ℕ} {mark : Mark} {hints : List ℕ} → slide_of plan.words ≡ None → IsHeld plan layout count mark hints → Rests plan layout count mark hints
still {plan} {layout} {count} {mark} {hints} none held =
    let even = none_even plan.words none in
    let laid = held.laid even in
    record {
      even = even;
      laid_out = held.laid_out;
      settled = held.settled;
      back = read_back plan.words layout plan.nodes laid;
      laid = laid;
      shelf = shelf_by plan.words layout plan.nodes (slice_index plan.words 4) count mark held.sizes laid held.entries refl held.counted held.live held.marked;
      hinted = held.hinted;
    }

pub still_view : (plan : Plan) (layout : Layout) → nodes_in plan.words layout ≡ plan.nodes → shelf_of plan.words layout ≡ shelf_in plan.nodes plan.words layout
still_view plan layout back = ap (λ (ps : List Placed). shelf_in ps plan.words layout) back

-- the words were changed, and the shelf with them
pub record Moved (plan plan' : Plan) (layout : Layout) (count : ℕ) (mark : Mark) (hints : List ℕ) (change : Shelf → Shelf) : Type 0 where
  pub held : IsHeld plan' layout count mark hints
  pub view : shelf_in plan'.nodes plan'.words layout ≡ change (shelf_in plan.nodes plan.words layout)
  pub going : slide_of plan'.words ≡ slide_of plan.words
  pub epoch : slice_index plan'.words 1 ≡ slice_index plan.words 1
  pub source : slice_index plan'.words 2 ≡ slice_index plan.words 2

pub moved : {plan plan' : Plan} {layout : Layout} {count count' : ℕ} {mark mark' : Mark} {hints : List ℕ} (hints' : List ℕ) (change : Shelf → Shelf) → Rests plan layout count mark hints → plan'.layout ≡ plan.layout → plan'.counted ≡ true → Laid plan'.words layout plan'.nodes → Altered plan.words plan'.words layout count' mark' (change (shelf_of plan.words layout)) → AreHints hints' layout plan'.nodes → Moved plan plan' layout count' mark' hints' change
moved {plan} {plan'} {layout} {count' = count'} {mark' = mark'} hints' change rests same settled laid now hinted =
    let back = read_back plan'.words layout plan'.nodes laid in
    record {
      held = record {
        laid_out = same ∙ rests.laid_out;
        settled = settled;
        sizes = rests.shelf.sizes;
        laid = λ even. laid;
        entries = subst (λ (ps : List Placed). AreEntries ps (slice_index plan'.words 4)) back now.shelf.entries;
        counted = now.shelf.counted;
        live = now.shelf.live ∙ ap (λ (ps : List Placed). length (entries_in ps)) back;
        marked = subst (λ (ps : List Placed). IsMark layout ps mark'.place mark'.number) back now.shelf.marked;
        hinted = hinted;
      };
      view = ap (λ (ps : List Placed). shelf_in ps plan'.words layout) (sym back) ∙ now.view ∙ ap change (still_view plan layout rests.back);
      going = slide_none plan'.words (ap (λ (n : ℕ). n % 2) now.cycle ∙ rests.even) ∙ sym (slide_none plan.words rests.even);
      epoch = now.epoch;
      source = now.source;
    }

-- a count was set
pub counted_moved : {plan : Plan} {layout : Layout} {count : ℕ} {mark : Mark} {hints : List ℕ} (at word : ℕ) (change : Shelf → Shelf) → Rests plan layout count mark hints → Counted plan.words (set plan.words at word) layout count mark (change (shelf_of plan.words layout)) → Moved plan (stored at word plan) layout count mark hints change
counted_moved {plan} {layout} {hints = hints} at word change rests now = moved hints change rests refl rests.settled (subst (Laid (set plan.words at word) layout) rests.back now.laid) now.altered rests.hinted

-- the number of the newest version was set, or that of the invalidations
pub record Numbered (plan : Plan) (words : List ℕ) (seen : List Record) (layout : Layout) (count : ℕ) (mark : Mark) (hints : List ℕ) : Type 0 where
  pub held : IsHeld (record plan { seen = seen; words = words }) layout count mark hints
  pub view : shelf_in plan.nodes words layout ≡ shelf_in plan.nodes plan.words layout
  pub going : slide_of words ≡ slide_of plan.words

pub numbered : {plan : Plan} {layout : Layout} {count : ℕ} {mark : Mark} {hints : List ℕ} (k word : ℕ) (seen : List Record) → 0 < k → k < 3 → Rests plan layout count mark hints → IsHeld plan layout count mark hints → Numbered plan (set plan.words k word) seen layout count mark hints
numbered {plan} {layout} k word seen low high rests held =
    let new : List ℕ = set plan.words k word in
    let other : (i : ℕ) → i ≢ k → slice_index new i ≡ slice_index plan.words i = λ i n. get_or-set_other plan.words k i word 0 n in
    let e0 = other 0 (omega arith) in
    let e4 = other 4 (omega arith) in
    let e5 = other 5 (omega arith) in
    let e6 = other 6 (omega arith) in
    let e7 = other 7 (omega arith) in
    let e8 = other 8 (omega arith) in
    let e9 = other 9 (omega arith) in
    record {
      held = record {
        laid_out = held.laid_out;
        settled = held.settled;
        sizes = held.sizes;
        laid = λ even. set_head plan.words new layout plan.nodes k word (omega arith) (omega arith) refl rests.laid;
        entries = subst (AreEntries plan.nodes) (sym e4) held.entries;
        counted = subst (λ (n : ℕ). n ≤ last_count) (sym e4) held.counted;
        live = held.live;
        marked = held.marked;
        hinted = held.hinted;
      };
      view = λ i. record (shelf_in plan.nodes plan.words layout) { inserted = e4 i; cycle = e0 i; add_failed = e9 i; hits = record { found = e5 i; not_found = e6 i }; misses = record { found = e7 i; not_found = e8 i } };
      going = slide_none new (ap (λ (n : ℕ). n % 2) e0 ∙ rests.even) ∙ sym (slide_none plan.words rests.even);
    }

-- a word behind the head was set, and the nodes stay
pub kept_by : {plan : Plan} {layout : Layout} {count : ℕ} {mark : Mark} {hints : List ℕ} (at word : ℕ) → 16 ≤ at → Rests plan layout count mark hints → IsHeld plan layout count mark hints → Laid (set plan.words at word) layout plan.nodes → Moved plan (stored at word plan) layout count mark hints (λ s. s)
kept_by {plan} {layout} at word low rests held laid =
    let new : List ℕ = set plan.words at word in
    let other : (i : ℕ) → i < 16 → slice_index new i ≡ slice_index plan.words i = λ i less. get_or-set_other plan.words at i word 0 (omega arith) in
    let e0 = other 0 (omega arith) in
    let e4 = other 4 (omega arith) in
    let e5 = other 5 (omega arith) in
    let e6 = other 6 (omega arith) in
    let e7 = other 7 (omega arith) in
    let e8 = other 8 (omega arith) in
    let e9 = other 9 (omega arith) in
    record {
      held = record {
        laid_out = held.laid_out;
        settled = held.settled;
        sizes = held.sizes;
        laid = λ even. laid;
        entries = subst (AreEntries plan.nodes) (sym e4) held.entries;
        counted = subst (λ (n : ℕ). n ≤ last_count) (sym e4) held.counted;
        live = held.live;
        marked = held.marked;
        hinted = held.hinted;
      };
      view = λ i. record (shelf_in plan.nodes plan.words layout) { inserted = e4 i; cycle = e0 i; add_failed = e9 i; hits = record { found = e5 i; not_found = e6 i }; misses = record { found = e7 i; not_found = e8 i } };
      going = slide_none new (ap (λ (n : ℕ). n % 2) e0 ∙ rests.even) ∙ sym (slide_none plan.words rests.even);
      epoch = other 1 (omega arith);
      source = other 2 (omega arith);
    }

-- another mark
pub marked : {plan : Plan} {layout : Layout} {count : ℕ} {mark mark' : Mark} {hints : List ℕ} → Rests plan layout count mark hints → IsHeld plan layout count mark hints → ((nodes : List Placed) → Laid plan.words layout nodes → IsMark layout nodes mark.place mark.number → IsMark layout nodes mark'.place mark'.number) → IsHeld plan layout count mark' hints
marked {plan} rests held marks = record { laid_out = held.laid_out; settled = held.settled; sizes = held.sizes; laid = held.laid; entries = held.entries; counted = held.counted; live = held.live; marked = marks plan.nodes rests.laid held.marked; hinted = held.hinted }

-- ---- its entries by number

-- the oldest entry of at least a number is that of the node that a search found
pub record Entered (words : List ℕ) (s : Shelf) (number : ℕ) (f : Found) : Type 0 where
  pub node : Placed
  pub here : IsNodeAt words f.at node
  pub head : f.head ≡ head_of node
  pub entry : Some (kept_in node) ≡ entry_from number s.entries
  pub below : node.node.number < s.inserted

pub entered : {plan : Plan} {layout : Layout} {count : ℕ} {mark : Mark} {hints : List ℕ} (number : ℕ) (f : Found) → Rests plan layout count mark hints → IsHeld plan layout count mark hints → ((nodes : List Placed) → Laid plan.words layout nodes → IsMark layout nodes mark.place mark.number → IsOldest number nodes (Some f)) → Entered plan.words (shelf_in plan.nodes plan.words layout) number f
entered {plan} {layout} number f rests held found =
    let w : IsOldest number plan.nodes (Some f) = found plan.nodes rests.laid held.marked in
    record {
      node = w.0;
      here = node_at plan.words layout plan.nodes w.0 f.at rests.shelf.sizes rests.laid w.1 w.2;
      head = w.6;
      entry = sym (found_entry number plan.nodes f w rests.laid.rising);
      below = held.entries.numbers w.0 w.1;
    }

-- there is none where it found no node
pub none_entered : {plan : Plan} {layout : Layout} {count : ℕ} {mark : Mark} {hints : List ℕ} (number : ℕ) → Rests plan layout count mark hints → IsHeld plan layout count mark hints → ((nodes : List Placed) → Laid plan.words layout nodes → IsMark layout nodes mark.place mark.number → IsFirst number nodes None) → None ≡ entry_from number (shelf_in plan.nodes plan.words layout).entries
none_entered {plan} number rests held found = sym (found_none number plan.nodes (found plan.nodes rests.laid held.marked))
