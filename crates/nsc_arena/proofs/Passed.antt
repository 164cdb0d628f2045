-- Nodes passed one after the other, from the oldest one on.
use Rattle.std.proofs.Common.{◌≡◌, ℕ, ◌+◌, ◌<◌, ◌≤◌, ◌⊎◌, inl, inr, List, [], ◌∷◌, ◌++◌, map, set, slice_index, refl, sym, ap, subst, ◌∙◌, arith}
use Rattle.std.proofs.lemmas.List.{append-nil}
use Rattle.nsc_words.specs.declared.layout.Layout.{Layout}
use Rattle.nsc_words.specs.declared.node.Placed.{Placed}
use Rattle.nsc_words.specs.Laid.{Among, InRow, Laid, Rising, end_of, words_in}
use Rattle.nsc_words.specs.Layout.{IsLayout, arena_start, table_words}
use Rattle.nsc_arena.specs.Changes.{IsMark, IsNodeAt}
use Rattle.nsc_arena.proofs.Rows.{inside, node_at}
use Rattle.nsc_arena.proofs.Changed.{end_laid, ended_at, ended_if, one_ended, still_among}

-- ---- the older nodes of a list

pub row_of : (start : ℕ) (newer done : List Placed) → InRow start (newer ++ done) → InRow start done
row_of start [] done row = row
row_of start (p ∷ newer) done row = row_of start newer done row.1

pub rising_of : (newer done : List Placed) → Rising (newer ++ done) → Rising done
rising_of [] done rising = rising
rising_of (p ∷ newer) done rising = rising_of newer done rising.1

pub among_of : (newer done : List Placed) (p : Placed) → Among p done → Among p (newer ++ done)
among_of [] done p among = among
among_of (q ∷ newer) done p among = inr (among_of newer done p among)

-- they end no later than all, and earlier where there are newer ones
pub ends_before : (start : ℕ) (newer done : List Placed) → InRow start (newer ++ done) → end_of start done ≤ end_of start (newer ++ done)
ends_before start [] done row = omega arith
ends_before start (p ∷ newer) done row = let e = ends_before start newer done row.1 in let f = row.0 in omega arith

-- the oldest of the newer ones
pub oldest : (p : Placed) (newer done : List Placed) → (front : List Placed) × (n : Placed) × ((p ∷ newer) ++ done ≡ front ++ (n ∷ done))
oldest p [] done = ([], p, refl)
oldest p (q ∷ newer) done = let w = oldest q newer done in (p ∷ w.0, w.1, ap (λ (ps : List Placed). p ∷ ps) w.2)

-- ---- nodes that were passed

-- the nodes before a place were passed
pub record Passed (layout : Layout) (nodes done : List Placed) (at : ℕ) : Type 0 where
  pub newer : List Placed
  pub split : nodes ≡ newer ++ done
  pub end : at ≡ end_of (arena_start layout) done

pub passed_none : (layout : Layout) (nodes : List Placed) (at : ℕ) → at ≡ arena_start layout → Passed layout nodes [] at
passed_none layout nodes at is = record { newer = nodes; split = sym (append-nil nodes); end = is }

-- the node at the place is the next one
pub record Following (layout : Layout) (nodes done : List Placed) (at : ℕ) : Type 0 where
  pub node : Placed
  pub among : Among node nodes
  pub place : node.place ≡ at
  pub passed : Passed layout nodes (node ∷ done) (at + words_in node.node)

pub following : (layout : Layout) (nodes done : List Placed) (at : ℕ) → InRow (arena_start layout) nodes → Passed layout nodes done at → at < end_of (arena_start layout) nodes → Following layout nodes done at
following layout nodes done at in_row passed more = by passed.newer passed.split where
  by : (newer : List Placed) → nodes ≡ newer ++ done → Following layout nodes done at
  by [] split = let e : end_of (arena_start layout) nodes ≡ end_of (arena_start layout) done = ap (end_of (arena_start layout)) split in let f = passed.end in absurd (omega arith)
  by (p ∷ newer) split =
      let w = oldest p newer done in
      let n : Placed = w.1 in
      let whole : nodes ≡ w.0 ++ (n ∷ done) = split ∙ w.2 in
      let row : InRow (arena_start layout) (w.0 ++ (n ∷ done)) = subst (InRow (arena_start layout)) whole in_row in
      let place : n.place ≡ at = (row_of (arena_start layout) w.0 (n ∷ done) row).0 ∙ sym passed.end in
      record { node = n; among = subst (Among n) (sym whole) (among_of w.0 (n ∷ done) n (inl refl)); place = place; passed = record { newer = w.0; split = whole; end = omega arith } }

-- and stands in the words
pub record Next (words : List ℕ) (layout : Layout) (nodes done : List Placed) (at : ℕ) : Type 0 where
  pub node : Placed
  pub among : Among node nodes
  pub here : IsNodeAt words at node
  pub passed : Passed layout nodes (node ∷ done) (at + words_in node.node)

pub passed_next : (words : List ℕ) (layout : Layout) (nodes done : List Placed) (at : ℕ) → IsLayout layout → Laid words layout nodes → Passed layout nodes done at → at < end_of (arena_start layout) nodes → Next words layout nodes done at
passed_next words layout nodes done at sizes laid passed more =
    let n = following layout nodes done at laid.row passed more in
    record { node = n.node; among = n.among; here = node_at words layout nodes n.node at sizes laid n.among n.place; passed = n.passed }

-- the same by the place behind all nodes, in the same words
pub next_in : (old cur : List ℕ) (layout : Layout) (nodes done : List Placed) (at end : ℕ) → IsLayout layout → Laid old layout nodes → Passed layout nodes done at → cur ≡ old → end ≡ slice_index old 3 → at < end → Next cur layout nodes done at
next_in old cur layout nodes done at end sizes laid passed same is more = passed_next cur layout nodes done at sizes (subst (λ (ws : List ℕ). Laid ws layout nodes) (sym same) laid) passed (omega (arith, is, laid.first_free, more))

-- the node at the place is the next one that ends
pub record EndsNext (cur : List ℕ) (layout : Layout) (nodes done : List Placed) (at : ℕ) : Type 0 where
  pub node : Placed
  pub among : Among node nodes
  pub here : IsNodeAt cur at node
  pub low : 16 ≤ at
  pub high : at + 8 ≤ table_words layout
  pub passed : Passed layout nodes (node ∷ done) (at + words_in node.node)
  pub laid : (new : List ℕ) → new ≡ set cur (at + 6) 0 → Laid new layout (map (ended_if (at + words_in node.node)) nodes)

pub ends_next : (old cur : List ℕ) (layout : Layout) (nodes done : List Placed) (at end : ℕ) → IsLayout layout → Laid old layout nodes → Passed layout nodes done at → Laid cur layout (map (ended_if at) nodes) → end ≡ slice_index old 3 → at < end → EndsNext cur layout nodes done at
ends_next old cur layout nodes done at end sizes laid passed ended is more =
    let n = passed_next old layout nodes done at sizes laid passed (omega (arith, is, laid.first_free, more)) in
    let still = still_among nodes n.node at n.among n.here.place in
    let here = inside cur layout (map (ended_if at) nodes) n.node sizes ended still in
    record {
      node = n.node;
      among = n.among;
      here = ended_at cur layout nodes n.node at sizes n.among n.here.place ended;
      low = omega (arith, here.0, n.here.place);
      high = omega (arith, here.1, n.here.place, ended.table);
      passed = n.passed;
      laid = λ new set_is. subst (Laid new layout) (one_ended layout nodes n.node at laid.row n.among n.here.place) (end_laid cur new layout (map (ended_if at) nodes) n.node at sizes ended still n.here.place set_is);
    }

-- all were passed
pub passed_all : (words : List ℕ) (layout : Layout) (nodes done : List Placed) (at : ℕ) → Laid words layout nodes → Passed layout nodes done at → end_of (arena_start layout) nodes ≤ at → done ≡ nodes
passed_all words layout nodes done at laid passed over = by passed.newer passed.split where
  by : (newer : List Placed) → nodes ≡ newer ++ done → done ≡ nodes
  by [] split = sym split
  by (p ∷ newer) split =
      let row : InRow (arena_start layout) ((p ∷ newer) ++ done) = subst (InRow (arena_start layout)) split laid.row in
      let e : end_of (arena_start layout) nodes ≡ end_of (arena_start layout) ((p ∷ newer) ++ done) = ap (end_of (arena_start layout)) split in
      let low = ends_before (arena_start layout) newer done row.1 in
      let first = row.0 in
      let at_end = passed.end in
      absurd (omega arith)

-- ---- marks

-- a node at or behind one has no lower number, or it was passed before
pub not_older : (newer done : List Placed) (n q : Placed) → Rising (newer ++ (n ∷ done)) → Among q (newer ++ (n ∷ done)) → (Among q done) ⊎ (n.node.number ≤ q.node.number)
not_older [] done n q rising (inl e) = inr (let same : q.node.number ≡ n.node.number = ap (λ (p : Placed). p.node.number) e in omega arith)
not_older [] done n q rising (inr m) = inl m
not_older (p ∷ newer) done n q rising (inl e) = inr (let less = rising.0 n (among_of newer (n ∷ done) n (inl refl)) in let same : q.node.number ≡ p.node.number = ap (λ (r : Placed). r.node.number) e in omega arith)
not_older (p ∷ newer) done n q rising (inr m) = not_older newer done n q rising.1 m

-- at the oldest node each number is below any
pub mark_at_start : (layout : Layout) (nodes : List Placed) (from number : ℕ) → from ≡ arena_start layout → IsMark layout nodes from number
mark_at_start layout nodes from number is = record { newer = nodes; older = []; split = sym (append-nil nodes); place = is; below = λ p among. absurd among }

-- a node is a mark of its number
pub mark_at : (layout : Layout) (nodes : List Placed) (n : Placed) → InRow (arena_start layout) nodes → Rising nodes → Among n nodes → IsMark layout nodes n.place n.node.number
mark_at layout [] n row rising among = absurd among
mark_at layout (p ∷ older) n row rising (inl e) = record {
  newer = p ∷ [];
  older = older;
  split = refl;
  place = ap (λ (q : Placed). q.place) e ∙ row.0;
  below = λ q m. let less = rising.0 q m in let same : n.node.number ≡ p.node.number = ap (λ (r : Placed). r.node.number) e in omega arith;
}
mark_at layout (p ∷ older) n row rising (inr m) =
    let rest = mark_at layout older n row.1 rising.1 m in
    record { newer = p ∷ rest.newer; older = rest.older; split = ap (λ (l : List Placed). p ∷ l) rest.split; place = rest.place; below = rest.below }
