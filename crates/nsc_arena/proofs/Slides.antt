-- Usable nodes moved down, from the oldest one on.
use Rattle.std.proofs.Common.{◌≡◌, ◌≢◌, ℕ, ◌+◌, ◌<◌, ◌≤◌, inl, inr, Bool, true, false, cond, List, [], ◌∷◌, slice_index, refl, sym, ap, subst, ◌∙◌, arith}
use Rattle.nsc_words.specs.declared.layout.Layout.{Layout}
use Rattle.nsc_words.specs.declared.node.Node.{Node}
use Rattle.nsc_words.specs.declared.node.Placed.{Placed}
use Rattle.nsc_words.specs.Laid.{Among, Laid, Rising, end_of, slid, words_in}
use Rattle.nsc_words.specs.Layout.{IsLayout, arena_start}
use Rattle.nsc_arena.specs.Changes.{IsNext, IsNodeAt}
use Rattle.nsc_arena.specs.Written.{IsWritten}
use Rattle.nsc_arena.proofs.Passed.{Passed, passed_all, passed_next, passed_none, rising_of}
use Rattle.nsc_arena.proofs.Rows.{end_after, kept, moved, same_below, within}

-- ---- what was slid

-- a node that was slid is one of those before, at another place
pub slid_from : (start : ℕ) (nodes : List Placed) (q : Placed) → Among q (slid start nodes) → (p : Placed) × Among p nodes × (q.node ≡ p.node) × (q.usable ≡ p.usable)
slid_from start [] q among = absurd among
slid_from start (p ∷ older) q among = by p.usable among (slid_from start older q) where
  by : (b : Bool) → Among q (cond b (record p { place = end_of start (slid start older) } ∷ slid start older) (slid start older)) → (Among q (slid start older) → (r : Placed) × Among r older × (q.node ≡ r.node) × (q.usable ≡ r.usable)) → (r : Placed) × Among r (p ∷ older) × (q.node ≡ r.node) × (q.usable ≡ r.usable)
  by true (inl e) rest = (p, inl refl, ap (λ (s : Placed). s.node) e, ap (λ (s : Placed). s.usable) e)
  by true (inr m) rest = let w = rest m in (w.0, inr w.1, w.2, w.3)
  by false m rest = let w = rest m in (w.0, inr w.1, w.2, w.3)

-- ---- how far it has come

-- the nodes before a place were slid, and from that place on nothing changed
pub record Sliding (old new : List ℕ) (layout : Layout) (nodes : List Placed) (from : ℕ) : Type 0 where
  pub done : List Placed
  pub passed : Passed layout nodes done from
  pub laid : Laid new layout (slid (arena_start layout) done)
  pub rest : (i : ℕ) → from ≤ i → slice_index new i ≡ slice_index old i
  pub behind : end_of (arena_start layout) (slid (arena_start layout) done) ≤ from

pub starts : (old new : List ℕ) (layout : Layout) (nodes : List Placed) (from : ℕ) → Laid new layout [] → ((i : ℕ) → arena_start layout ≤ i → slice_index new i ≡ slice_index old i) → from ≡ arena_start layout → Sliding old new layout nodes from
starts old new layout nodes from laid same is = record { done = []; passed = passed_none layout nodes from is; laid = laid; rest = λ i more. same i (omega arith); behind = omega arith }

-- the node at the place
pub record Current (words : List ℕ) (layout : Layout) (nodes done : List Placed) (from : ℕ) : Type 0 where
  pub node : Placed
  pub here : IsNodeAt words from node
  pub end : from + words_in node.node ≤ end_of (arena_start layout) nodes
  pub passed : Passed layout nodes (node ∷ done) (from + words_in node.node)
  pub newest : (q : Placed) → Among q done → q.node.number < node.node.number

-- by the place behind all nodes
pub turn : (old new : List ℕ) (layout : Layout) (nodes : List Placed) (from end : ℕ) → IsLayout layout → Laid old layout nodes → (s : Sliding old new layout nodes from) → end ≡ slice_index old 3 → from < end → Current new layout nodes s.done from
turn old new layout nodes from end sizes laid s is more =
    let n = passed_next old layout nodes s.done from sizes laid s.passed (omega (arith, is, laid.first_free, more)) in
    let at = within (arena_start layout) nodes n.node laid.row n.among in
    let place = n.here.place in
    let table = s.laid.table in
    record {
      node = n.node;
      here = record { place = place; stands = kept old new n.node (λ i less differs. s.rest (n.node.place + i) (omega arith)) n.here.stands; inside = omega (arith, n.here.inside, table, laid.table); size = omega (arith, n.here.size, table, laid.table) };
      end = omega arith;
      passed = n.passed;
      newest = (rising_of n.passed.newer (n.node ∷ s.done) (subst Rising n.passed.split laid.rising)).0;
    }

-- a usable node that was moved down stands behind those that were slid before it
pub slides_next : (old cur mid : List ℕ) (layout : Layout) (nodes : List Placed) (from to count : ℕ) → Laid old layout nodes → (s : Sliding old cur layout nodes from) → (n : Current cur layout nodes s.done from) → to ≡ slice_index cur 3 → count ≡ words_in n.node.node → n.node.usable ≡ true → IsWritten cur mid to count (λ i. slice_index cur (from + i)) → IsNext mid layout (slid (arena_start layout) s.done) (record n.node { place = to })
slides_next old cur mid layout nodes from to count laid s n is size usable written =
    let start : ℕ = arena_start layout in
    let low : to ≡ end_of start (slid start s.done) = is ∙ s.laid.first_free in
    let behind = s.behind in
    let end = n.end in
    let room = laid.room in
    let place = n.here.place in
    record {
      laid = same_below cur mid layout (slid start s.done) s.laid (record { size = written.size; below = λ i less. written.below i (omega arith) });
      place = low;
      room = omega arith;
      usable = usable;
      stands = record { node = n.here.stands.node; holds = moved cur mid n.node.place to n.node.node n.node.usable (λ i less differs. written.inside i (omega arith) ∙ ap (λ (a : ℕ). slice_index cur (a + i)) (sym place)) n.here.stands.holds };
      newest = λ q among. let w = slid_from start s.done q among in let e : q.node.number ≡ w.0.node.number = ap (λ (m : Node). m.number) w.2 in let less = n.newest w.0 w.1 in omega arith;
    }

-- a step over a usable node, which was linked at its new place
pub slides_on : (old cur mid new : List ℕ) (layout : Layout) (nodes : List Placed) (from to count : ℕ) → IsLayout layout → (s : Sliding old cur layout nodes from) → (n : Current cur layout nodes s.done from) → to ≡ slice_index cur 3 → count ≡ words_in n.node.node → n.node.usable ≡ true → IsWritten cur mid to count (λ i. slice_index cur (from + i)) → Laid new layout (record n.node { place = to } ∷ slid (arena_start layout) s.done) → ((i : ℕ) → arena_start layout ≤ i → i ≢ to + 7 → slice_index new i ≡ slice_index mid i) → Sliding old new layout nodes (from + count)
slides_on old cur mid new layout nodes from to count sizes s n is size usable written laid arena =
    let start : ℕ = arena_start layout in
    let low : to ≡ end_of start (slid start s.done) = is ∙ s.laid.first_free in
    let behind = s.behind in
    let place = n.here.place in
    let first = end_after start (slid start s.done) s.laid.row in
    let there : record n.node { place = to } ∷ slid start s.done ≡ slid start (n.node ∷ s.done) = ap (λ (a : ℕ). record n.node { place = a } ∷ slid start s.done) low ∙ ap (λ (b : Bool). cond b (record n.node { place = end_of start (slid start s.done) } ∷ slid start s.done) (slid start s.done)) (sym usable) in
    let ends : end_of start (slid start (n.node ∷ s.done)) ≡ to + words_in n.node.node = ap (end_of start) (sym there) in
    record {
      done = n.node ∷ s.done;
      passed = subst (λ (k : ℕ). Passed layout nodes (n.node ∷ s.done) (from + k)) (sym size) n.passed;
      laid = subst (Laid new layout) there laid;
      rest = λ i more. arena i (omega arith) (omega arith) ∙ written.above i (omega arith) ∙ s.rest i (omega arith);
      behind = omega arith;
    }

-- a step over an ended node
pub slides_over : (old cur new : List ℕ) (layout : Layout) (nodes : List Placed) (from count : ℕ) → (s : Sliding old cur layout nodes from) → (n : Current cur layout nodes s.done from) → count ≡ words_in n.node.node → n.node.usable ≡ false → new ≡ cur → Sliding old new layout nodes (from + count)
slides_over old cur new layout nodes from count s n size unusable same =
    let start : ℕ = arena_start layout in
    let behind = s.behind in
    let place = n.here.place in
    let there : slid start s.done ≡ slid start (n.node ∷ s.done) = ap (λ (b : Bool). cond b (record n.node { place = end_of start (slid start s.done) } ∷ slid start s.done) (slid start s.done)) (sym unusable) in
    let ends : end_of start (slid start (n.node ∷ s.done)) ≡ end_of start (slid start s.done) = ap (end_of start) (sym there) in
    record {
      done = n.node ∷ s.done;
      passed = subst (λ (k : ℕ). Passed layout nodes (n.node ∷ s.done) (from + k)) (sym size) n.passed;
      laid = subst (λ (ws : List ℕ). Laid ws layout (slid start (n.node ∷ s.done))) (sym same) (subst (Laid cur layout) there s.laid);
      rest = λ i more. ap (λ (ws : List ℕ). slice_index ws i) same ∙ s.rest i (omega arith);
      behind = omega arith;
    }

-- all nodes were slid
pub slides_to_end : (old new : List ℕ) (layout : Layout) (nodes : List Placed) (from : ℕ) → Laid old layout nodes → (s : Sliding old new layout nodes from) → end_of (arena_start layout) nodes ≤ from → Laid new layout (slid (arena_start layout) nodes) × (slice_index new 3 ≤ slice_index old 3)
slides_to_end old new layout nodes from laid s over =
    let all : s.done ≡ nodes = passed_all old layout nodes s.done from laid s.passed over in
    let end : from ≡ end_of (arena_start layout) nodes = s.passed.end ∙ ap (end_of (arena_start layout)) all in
    (subst (λ (ps : List Placed). Laid new layout (slid (arena_start layout) ps)) all s.laid, omega (arith, end, s.behind, s.laid.first_free, laid.first_free))
