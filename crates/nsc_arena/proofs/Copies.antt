-- Usable nodes copied into another table, from the oldest one on.
use Rattle.std.proofs.Common.{◌≡◌, ℕ, ◌+◌, ◌<◌, ◌≤◌, Bool, true, false, cond, List, [], ◌∷◌, ◌++◌, slice_index, sym, ap, subst, ◌∙◌, arith}
use Rattle.nsc_words.specs.declared.layout.Layout.{Layout}
use Rattle.nsc_words.specs.declared.node.Node.{Node}
use Rattle.nsc_words.specs.declared.node.Placed.{Placed}
use Rattle.nsc_words.specs.Laid.{Among, Laid, Rising, end_of, slid, words_in}
use Rattle.nsc_words.specs.Layout.{IsLayout, arena_start, table_words}
use Rattle.nsc_arena.specs.Changes.{IsNext, IsNodeAt}
use Rattle.nsc_arena.specs.Written.{UsableNodesFit, IsWritten}
use Rattle.nsc_arena.proofs.Passed.{Passed, passed_all, passed_next, passed_none, rising_of}
use Rattle.nsc_arena.proofs.Rows.{moved, same_below, within}
use Rattle.nsc_arena.proofs.Slides.{slid_from}

-- more nodes end no earlier
ends_grow : (start : ℕ) (newer done : List Placed) → end_of start (slid start done) ≤ end_of start (slid start (newer ++ done))
ends_grow start [] done = omega arith
ends_grow start (p ∷ newer) done = by p.usable (ends_grow start newer done) where
  by : (b : Bool) → end_of start (slid start done) ≤ end_of start (slid start (newer ++ done)) → end_of start (slid start done) ≤ end_of start (cond b (record p { place = end_of start (slid start (newer ++ done)) } ∷ slid start (newer ++ done)) (slid start (newer ++ done)))
  by true less = omega arith
  by false less = less

-- the nodes before a place were copied
pub record Copying (new : List ℕ) (from layout : Layout) (nodes : List Placed) (at : ℕ) : Type 0 where
  pub done : List Placed
  pub passed : Passed from nodes done at
  pub laid : Laid new layout (slid (arena_start layout) done)

pub copies_none : (new : List ℕ) (from layout : Layout) (nodes : List Placed) (at : ℕ) → Laid new layout [] → at ≡ arena_start from → Copying new from layout nodes at
copies_none new from layout nodes at laid is = record { done = []; passed = passed_none from nodes at is; laid = laid }

-- the node at the place
pub record Copied (words : List ℕ) (from layout : Layout) (nodes done : List Placed) (at : ℕ) : Type 0 where
  pub node : Placed
  pub here : IsNodeAt words at node
  pub end : at + words_in node.node ≤ end_of (arena_start from) nodes
  pub passed : Passed from nodes (node ∷ done) (at + words_in node.node)
  pub newest : (q : Placed) → Among q done → q.node.number < node.node.number

-- by the place behind all nodes
pub copied : (old new : List ℕ) (from layout : Layout) (nodes : List Placed) (at end : ℕ) → IsLayout from → Laid old from nodes → (s : Copying new from layout nodes at) → end ≡ slice_index old 3 → at < end → Copied old from layout nodes s.done at
copied old new from layout nodes at end sizes laid s is more =
    let n = passed_next old from nodes s.done at sizes laid s.passed (omega (arith, is, laid.first_free, more)) in
    let there = within (arena_start from) nodes n.node laid.row n.among in
    let place = n.here.place in
    record { node = n.node; here = n.here; end = omega arith; passed = n.passed; newest = (rising_of n.passed.newer (n.node ∷ s.done) (subst Rising n.passed.split laid.rising)).0 }

-- a usable node of these, behind those that were copied before it
pub record HasRoom (layout : Layout) (done : List Placed) (n : Placed) (to : ℕ) : Type 0 where
  pub there : record n { place = to } ∷ slid (arena_start layout) done ≡ slid (arena_start layout) (n ∷ done)
  pub place : to ≡ end_of (arena_start layout) (slid (arena_start layout) done)
  pub room : to + words_in n.node ≤ table_words layout

pub has_room : (old cur : List ℕ) (from layout : Layout) (nodes : List Placed) (at to : ℕ) → UsableNodesFit layout nodes → (s : Copying cur from layout nodes at) → (n : Copied old from layout nodes s.done at) → to ≡ slice_index cur 3 → n.node.usable ≡ true → HasRoom layout s.done n.node to
has_room old cur from layout nodes at to fit s n is usable =
    let start : ℕ = arena_start layout in
    let low : to ≡ end_of start (slid start s.done) = is ∙ s.laid.first_free in
    let there : record n.node { place = to } ∷ slid start s.done ≡ slid start (n.node ∷ s.done) = ap (λ (a : ℕ). record n.node { place = a } ∷ slid start s.done) low ∙ ap (λ (b : Bool). cond b (record n.node { place = end_of start (slid start s.done) } ∷ slid start s.done) (slid start s.done)) (sym usable) in
    let ends : end_of start (slid start (n.node ∷ s.done)) ≡ to + words_in n.node.node = ap (end_of start) (sym there) in
    let grows : end_of start (slid start (n.node ∷ s.done)) ≤ end_of start (slid start nodes) = subst (λ (ps : List Placed). end_of start (slid start (n.node ∷ s.done)) ≤ end_of start (slid start ps)) (sym n.passed.split) (ends_grow start n.passed.newer (n.node ∷ s.done)) in
    record { there = there; place = low; room = omega arith }

-- a usable node that was copied stands behind those before it
pub copies_next : (old cur mid : List ℕ) (from layout : Layout) (nodes : List Placed) (at to count : ℕ) → UsableNodesFit layout nodes → (s : Copying cur from layout nodes at) → (n : Copied old from layout nodes s.done at) → to ≡ slice_index cur 3 → count ≡ words_in n.node.node → n.node.usable ≡ true → IsWritten cur mid to count (λ i. slice_index old (at + i))
    → IsNext mid layout (slid (arena_start layout) s.done) (record n.node { place = to })
copies_next old cur mid from layout nodes at to count fit s n is size usable written =
    let start : ℕ = arena_start layout in
    let has = has_room old cur from layout nodes at to fit s n is usable in
    let low = has.place in
    let place = n.here.place in
    record {
      laid = same_below cur mid layout (slid start s.done) s.laid (record { size = written.size; below = λ i less. written.below i (omega arith) });
      place = low;
      room = has.room;
      usable = usable;
      stands = record { node = n.here.stands.node; holds = moved old mid n.node.place to n.node.node n.node.usable (λ i less differs. written.inside i (omega arith) ∙ ap (λ (a : ℕ). slice_index old (a + i)) (sym place)) n.here.stands.holds };
      newest = λ q among. let w = slid_from start s.done q among in let e : q.node.number ≡ w.0.node.number = ap (λ (m : Node). m.number) w.2 in let less = n.newest w.0 w.1 in omega arith;
    }

-- a step over a usable node, which was linked at its new place
pub copies_on : (old cur new : List ℕ) (from layout : Layout) (nodes : List Placed) (at to count : ℕ) → UsableNodesFit layout nodes → (s : Copying cur from layout nodes at) → (n : Copied old from layout nodes s.done at) → to ≡ slice_index cur 3 → count ≡ words_in n.node.node → n.node.usable ≡ true → Laid new layout (record n.node { place = to } ∷ slid (arena_start layout) s.done)
    → Copying new from layout nodes (at + count)
copies_on old cur new from layout nodes at to count fit s n is size usable laid =
    let has = has_room old cur from layout nodes at to fit s n is usable in
    record {
      done = n.node ∷ s.done;
      passed = subst (λ (k : ℕ). Passed from nodes (n.node ∷ s.done) (at + k)) (sym size) n.passed;
      laid = subst (Laid new layout) has.there laid;
    }

-- a step over an ended node
pub copies_over : (old cur new : List ℕ) (from layout : Layout) (nodes : List Placed) (at count : ℕ) → (s : Copying cur from layout nodes at) → (n : Copied old from layout nodes s.done at) → count ≡ words_in n.node.node → n.node.usable ≡ false → new ≡ cur → Copying new from layout nodes (at + count)
copies_over old cur new from layout nodes at count s n size unusable same =
    let start : ℕ = arena_start layout in
    let there : slid start s.done ≡ slid start (n.node ∷ s.done) = ap (λ (b : Bool). cond b (record n.node { place = end_of start (slid start s.done) } ∷ slid start s.done) (slid start s.done)) (sym unusable) in
    record {
      done = n.node ∷ s.done;
      passed = subst (λ (k : ℕ). Passed from nodes (n.node ∷ s.done) (at + k)) (sym size) n.passed;
      laid = subst (λ (ws : List ℕ). Laid ws layout (slid start (n.node ∷ s.done))) (sym same) (subst (Laid cur layout) there s.laid);
    }

-- all nodes were copied
pub copies_to_end : (old new : List ℕ) (from layout : Layout) (nodes : List Placed) (at : ℕ) → Laid old from nodes → (s : Copying new from layout nodes at) → end_of (arena_start from) nodes ≤ at → Laid new layout (slid (arena_start layout) nodes)
copies_to_end old new from layout nodes at laid s over = let all : s.done ≡ nodes = passed_all old from nodes s.done at laid s.passed over in subst (λ (ps : List Placed). Laid new layout (slid (arena_start layout) ps)) all s.laid
