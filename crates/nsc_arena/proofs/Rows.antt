-- Nodes one after the other.
use Rattle.std.proofs.Common.{◌≡◌, ◌≢◌, ℕ, ◌+◌, ◌^◌, ◌<◌, ◌≤◌, inl, inr, Bool, cond, List, [], ◌∷◌, length, set, slice_index, sym, ap, subst, ◌∙◌, arith, length-set, get_or-set_other}
use Rattle.nsc_base.specs.Nodes.{words_for}
use Rattle.nsc_words.specs.declared.layout.Layout.{Layout}
use Rattle.nsc_words.specs.declared.node.Node.{Node}
use Rattle.nsc_words.specs.declared.node.Placed.{Placed}
use Rattle.nsc_words.specs.Laid.{Among, Holds, InRow, Laid, Leads, Stands, bucket_in, end_of, words_in}
use Rattle.nsc_words.specs.Layout.{IsLayout, arena_start}
use Rattle.nsc_arena.specs.Changes.{IsNodeAt}
use Rattle.nsc_arena.specs.Written.{IsSameBelow}

pub end_after : (start : ℕ) (nodes : List Placed) → InRow start nodes → start ≤ end_of start nodes
end_after start [] row = omega arith
end_after start (p ∷ older) row = let e = end_after start older row.1 in let f = row.0 in omega arith

-- a node stands before their end
pub within : (start : ℕ) (nodes : List Placed) (p : Placed) → InRow start nodes → Among p nodes → (start ≤ p.place) × (p.place + words_in p.node ≤ end_of start nodes)
within start [] p row among = absurd among
within start (q ∷ older) p row (inl e) =
    let after = end_after start older row.1 in
    let first = row.0 in
    let P : Placed → Type 0 = λ r. (start ≤ r.place) × (r.place + words_in r.node ≤ end_of start (q ∷ older)) in
    let at_q : P q = (omega arith, omega arith) in
    subst P (sym e) at_q
within start (q ∷ older) p row (inr among) = let before = within start older p row.1 among in let first = row.0 in (before.0, omega arith)

-- one that stands before another one ends before it
pub apart : (start : ℕ) (nodes : List Placed) (p q : Placed) → InRow start nodes → Among p nodes → Among q nodes → p.place < q.place → p.place + words_in p.node ≤ q.place
apart start [] p q row among other lower = absurd among
apart start (r ∷ older) p q row (inl e) (inl f) lower = let g : p.place ≡ q.place = ap (λ (s : Placed). s.place) (e ∙ sym f) in absurd (omega arith)
apart start (r ∷ older) p q row (inl e) (inr other) lower = let g : p.place ≡ r.place = ap (λ (s : Placed). s.place) e in let before = within start older q row.1 other in let first = row.0 in absurd (omega arith)
apart start (r ∷ older) p q row (inr among) (inl f) lower = let g : q.place ≡ r.place = ap (λ (s : Placed). s.place) f in let before = within start older p row.1 among in let first = row.0 in omega arith
apart start (r ∷ older) p q row (inr among) (inr other) lower = apart start older p q row.1 among other lower

-- two that stand at one place are the same
pub same_place : (start : ℕ) (nodes : List Placed) (p q : Placed) → InRow start nodes → Among p nodes → Among q nodes → p.place ≡ q.place → p ≡ q
same_place start [] p q row among other e = absurd among
same_place start (r ∷ older) p q row (inl e) (inl f) same = e ∙ sym f
same_place start (r ∷ older) p q row (inl e) (inr other) same = let g : p.place ≡ r.place = ap (λ (s : Placed). s.place) e in let before = within start older q row.1 other in let first = row.0 in absurd (omega arith)
same_place start (r ∷ older) p q row (inr among) (inl f) same = let g : q.place ≡ r.place = ap (λ (s : Placed). s.place) f in let before = within start older p row.1 among in let first = row.0 in absurd (omega arith)
same_place start (r ∷ older) p q row (inr among) (inr other) same = same_place start older p q row.1 among other same

-- words that hold a node at another place or after other writes, but for its NEXT, with another count of reloads or another STATE
pub moved_but : (old new : List ℕ) (from to : ℕ) (n : Node) (usable : Bool) (count : ℕ) (state : Bool) → ((i : ℕ) → i < words_in n → i ≢ 5 → i ≢ 6 → i ≢ 7 → slice_index new (to + i) ≡ slice_index old (from + i)) → Holds old from n usable → slice_index new (to + 5) ≡ count → ◌≡◌ {A = ℕ} (slice_index new (to + 6)) (cond state 1 0) → Holds new to (record n { reloads = count }) state
moved_but old new from to n usable count state same holds reloads says = record {
  number = same 0 (omega arith) (omega arith) (omega arith) (omega arith) ∙ holds.number;
  shape = same 1 (omega arith) (omega arith) (omega arith) (omega arith) ∙ holds.shape;
  size = same 2 (omega arith) (omega arith) (omega arith) (omega arith) ∙ holds.size;
  version = same 3 (omega arith) (omega arith) (omega arith) (omega arith) ∙ holds.version;
  timeout = same 4 (omega arith) (omega arith) (omega arith) (omega arith) ∙ holds.timeout;
  reloads = reloads;
  state = says;
  key = λ i more.
      let e : to + 8 + i ≡ to + (8 + i) = omega arith in
      let f : from + (8 + i) ≡ from + 8 + i = omega arith in
      ap (slice_index new) e ∙ same (8 + i) (omega arith) (omega arith) (omega arith) (omega arith) ∙ ap (slice_index old) f ∙ holds.key i more;
  reply = λ i more.
      let k = words_for (length n.key) in
      let e : to + 8 + k + i ≡ to + (8 + k + i) = omega arith in
      let f : from + (8 + k + i) ≡ from + 8 + k + i = omega arith in
      ap (slice_index new) e ∙ same (8 + k + i) (omega arith) (omega arith) (omega arith) (omega arith) ∙ ap (slice_index old) f ∙ holds.reply i more;
}

-- words that hold a node, but for its NEXT, at another place or after other writes
pub moved : (old new : List ℕ) (from to : ℕ) (n : Node) (usable : Bool) → ((i : ℕ) → i < words_in n → i ≢ 7 → slice_index new (to + i) ≡ slice_index old (from + i)) → Holds old from n usable → Holds new to n usable
moved old new from to n usable same holds =
    moved_but old new from to n usable n.reloads usable (λ i more a b c. same i more c) holds (same 5 (omega arith) (omega arith) ∙ holds.reloads) (same 6 (omega arith) (omega arith) ∙ holds.state)

-- a node that no write met
pub kept : (old new : List ℕ) (p : Placed) → ((i : ℕ) → i < words_in p.node → i ≢ 7 → slice_index new (p.place + i) ≡ slice_index old (p.place + i)) → Stands old p → Stands new p
kept old new p same stands = record { node = stands.node; holds = moved old new p.place p.place p.node p.usable same stands.holds }

-- writes behind the nodes leave them
pub same_below : (old new : List ℕ) (layout : Layout) (nodes : List Placed) → Laid old layout nodes → IsSameBelow old new (end_of (arena_start layout) nodes) → Laid new layout nodes
same_below old new layout nodes laid same =
    let start = arena_start layout in
    let after = end_after start nodes laid.row in
    record {
      table = same.size ∙ laid.table;
      first_free = same.below 3 (omega arith) ∙ laid.first_free;
      room = laid.room;
      row = laid.row;
      rising = laid.rising;
      stands = λ p among. let at = within start nodes p laid.row among in kept old new p (λ i more other. same.below (p.place + i) (omega arith)) (laid.stands p among);
      buckets = λ i more. subst (λ (to : ℕ). Leads layout nodes (16 + i) (end_of start nodes) to) (sym (same.below (16 + i) (omega arith))) (laid.buckets i more);
      nexts = λ p among. let at = within start nodes p laid.row among in subst (λ (to : ℕ). Leads layout nodes (bucket_in layout p) p.place to) (sym (same.below (p.place + 7) (omega arith))) (laid.nexts p among);
    }

-- a node of the list stands behind the buckets and within the words
pub inside : (words : List ℕ) (layout : Layout) (nodes : List Placed) (p : Placed) → IsLayout layout → Laid words layout nodes → Among p nodes → (16 ≤ p.place) × (p.place + 8 ≤ length words) × (length words < 2 ^ 63)
inside words layout nodes p sizes laid among =
    let at = within (arena_start layout) nodes p laid.row among in
    let few = sizes.buckets in
    let small = sizes.room in
    let room = laid.room in
    let size = laid.table in
    (omega arith, omega arith, omega arith)

-- it stands at its place in the words
pub node_at : (words : List ℕ) (layout : Layout) (nodes : List Placed) (p : Placed) (at : ℕ) → IsLayout layout → Laid words layout nodes → Among p nodes → p.place ≡ at → IsNodeAt words at p
node_at words layout nodes p at sizes laid among place =
    let here = within (arena_start layout) nodes p laid.row among in
    record { place = place; stands = laid.stands p among; inside = omega (arith, here.1, place, laid.room, laid.table); size = (inside words layout nodes p sizes laid among).2 }

-- writes at the head, but for FIRST_FREE, leave the nodes
pub same_body : (old new : List ℕ) (layout : Layout) (nodes : List Placed) → Laid old layout nodes → length new ≡ length old → slice_index new 3 ≡ slice_index old 3 → ((i : ℕ) → 16 ≤ i → slice_index new i ≡ slice_index old i) → Laid new layout nodes
same_body old new layout nodes laid size first same =
    let start : ℕ = arena_start layout in
    record {
      table = size ∙ laid.table;
      first_free = first ∙ laid.first_free;
      room = laid.room;
      row = laid.row;
      rising = laid.rising;
      stands = λ p among. let at = within start nodes p laid.row among in kept old new p (λ i more other. same (p.place + i) (omega arith)) (laid.stands p among);
      buckets = λ i more. subst (λ (to : ℕ). Leads layout nodes (16 + i) (end_of start nodes) to) (sym (same (16 + i) (omega arith))) (laid.buckets i more);
      nexts = λ p among. let at = within start nodes p laid.row among in subst (λ (to : ℕ). Leads layout nodes (bucket_in layout p) p.place to) (sym (same (p.place + 7) (omega arith))) (laid.nexts p among);
    }

pub set_head : (old new : List ℕ) (layout : Layout) (nodes : List Placed) (k value : ℕ) → k < 16 → k ≢ 3 → new ≡ set old k value → Laid old layout nodes → Laid new layout nodes
set_head old new layout nodes k value low other is laid =
    same_body old new layout nodes laid (ap length is ∙ length-set old k value)
    (let ne : 3 ≢ k = omega arith in ap (λ (ws : List ℕ). slice_index ws 3) is ∙ get_or-set_other old k 3 value 0 ne)
    (λ i high. let ne : i ≢ k = omega arith in ap (λ (ws : List ℕ). slice_index ws i) is ∙ get_or-set_other old k i value 0 ne)
