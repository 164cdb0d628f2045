-- A walk along a chain, from a bucket's newest node to older ones.
use Rattle.std.proofs.Common.{◌≡◌, ◌≢◌, ℕ, ◌+◌, ◌%◌, ◌<◌, ◌≤◌, ◌⊎◌, inl, inr, ⊎_elim, Bool, true, false, cond, ◌&&◌, eqb, List, [], ◌∷◌, find, slice_index, Some, None, refl, sym, ap, subst, ◌∙◌, arith}
use Rattle.std.specs.Str.{bytes_eq}
use Rattle.std.proofs.lemmas.Bool.{cases_eq, eqb-true, false≢true}
use Rattle.std.proofs.lemmas.Slice.Eq.{bytes_eq-Decides}
use Rattle.nsc_words.specs.declared.layout.Layout.{Layout}
use Rattle.nsc_words.specs.declared.node.Placed.{Placed}
use Rattle.nsc_words.specs.Hash.{hash_of}
use Rattle.nsc_words.specs.Laid.{Among, InRow, Laid, Leads, answers, bucket_in, end_of, newest_for, place_of}
use Rattle.nsc_words.specs.Layout.{IsLayout, arena_start, bucket_of, table_words}
use Rattle.nsc_arena.specs.Changes.{IsNodeAt}
use Rattle.nsc_arena.proofs.Rows.{apart, node_at, same_place, within}

-- how far a walk has come: its place is 0 or that of a node of the bucket, and each node that answers is there or below
pub record Walking (layout : Layout) (kind : ℕ) (key : List ℕ) (nodes : List Placed) (at below : ℕ) : Type 0 where
  pub known : (at ≡ 0) ⊎ ((p : Placed) × Among p nodes × (p.place ≡ at) × (at + 8 ≤ below) × (bucket_in layout p ≡ bucket_of layout kind key))
  pub newest : (q : Placed) → Among q nodes → answers kind key q ≡ true → q.place ≤ at

pub both : (a b : Bool) → (a && b) ≡ true → (a ≡ true) × (b ≡ true)
both true b e = (refl, e)
both false b e = absurd (false≢true e)

-- a node that answers is usable, and one of the request's bucket
answering : (layout : Layout) (kind : ℕ) (key : List ℕ) (q : Placed) → answers kind key q ≡ true → (q.usable ≡ true) × (bucket_in layout q ≡ bucket_of layout kind key)
answering layout kind key q e =
    let a = both q.usable (eqb q.node.kind kind && bytes_eq q.node.key key) e in
    let b = both (eqb q.node.kind kind) (bytes_eq q.node.key key) a.1 in
    let same_kind : q.node.kind ≡ kind = eqb-true q.node.kind kind b.0 in
    let same_key : q.node.key ≡ key = (bytes_eq-Decides q.node.key key).0 b.1 in
    (a.0, ap (λ (k : ℕ). bucket_of layout k q.node.key) same_kind ∙ ap (bucket_of layout kind) same_key)

pub walk_starts : (words : List ℕ) (layout : Layout) (kind : ℕ) (key : List ℕ) (nodes : List Placed) (at bucket below : ℕ) → IsLayout layout → Laid words layout nodes → bucket ≡ bucket_of layout kind key → at ≡ slice_index words bucket → below ≡ table_words layout → Walking layout kind key nodes at below
walk_starts words layout kind key nodes at bucket below sizes laid is value all =
    let start : ℕ = arena_start layout in
    let some = sizes.some_bucket in
    let hash : ℕ = hash_of kind key % layout.buckets in
    let slot : hash < layout.buckets = omega arith in
    let room = laid.room in
    let word : at ≡ slice_index words (16 + hash) = value ∙ ap (slice_index words) is in
    let leads = subst (λ (to : ℕ). Leads layout nodes (16 + hash) (end_of start nodes) to) (sym word) (laid.buckets hash slot) in
    record {
      known = ⊎_elim (λ (e : at ≡ 0). inl e) (λ (w : (p : Placed) × Among p nodes × (p.place ≡ at) × (at < end_of start nodes) × (bucket_in layout p ≡ 16 + hash)). let here = within start nodes w.0 laid.row w.1 in let place = w.2 in inr (w.0, w.1, w.2, omega arith, w.4)) leads.known;
      newest = λ q among e. let a = answering layout kind key q e in let here = within start nodes q laid.row among in leads.none_between q among a.0 a.1 (omega arith);
    }

-- where it stands at a node
pub stands_at : (words : List ℕ) (layout : Layout) (kind : ℕ) (key : List ℕ) (nodes : List Placed) (at below : ℕ) → IsLayout layout → Laid words layout nodes → Walking layout kind key nodes at below → arena_start layout ≤ at → (p : Placed) × Among p nodes × IsNodeAt words at p × (at + 8 ≤ below) × (bucket_in layout p ≡ bucket_of layout kind key)
stands_at words layout kind key nodes at below sizes laid walking high = ⊎_elim
    (λ (e : at ≡ 0). absurd (omega arith))
    (λ (w : (p : Placed) × Among p nodes × (p.place ≡ at) × (at + 8 ≤ below) × (bucket_in layout p ≡ bucket_of layout kind key)).
    (w.0, w.1, node_at words layout nodes w.0 at sizes laid w.1 w.2, w.3, w.4))
    walking.known

-- a step to the next node
pub walk_goes : (words : List ℕ) (layout : Layout) (kind : ℕ) (key : List ℕ) (nodes : List Placed) (at below next : ℕ) → IsLayout layout → Laid words layout nodes → Walking layout kind key nodes at below → arena_start layout ≤ at → ((p : Placed) → IsNodeAt words at p → answers kind key p ≡ false) → next ≡ slice_index words (at + 7) → Walking layout kind key nodes next at
walk_goes words layout kind key nodes at below next sizes laid walking high none value =
    let start : ℕ = arena_start layout in
    let s = stands_at words layout kind key nodes at below sizes laid walking high in
    let p : Placed = s.0 in
    let place : p.place ≡ at = s.2.place in
    let word : next ≡ slice_index words (p.place + 7) = value ∙ ap (λ (a : ℕ). slice_index words (a + 7)) (sym place) in
    let leads : Leads layout nodes (bucket_in layout p) p.place next = subst (λ (to : ℕ). Leads layout nodes (bucket_in layout p) p.place to) (sym word) (laid.nexts p s.1) in
    record {
      known = ⊎_elim (λ (e : next ≡ 0). inl e) (λ (w : (q : Placed) × Among q nodes × (q.place ≡ next) × (next < p.place) × (bucket_in layout q ≡ bucket_in layout p)). let lower = w.3 in let at_q = w.2 in let far = apart start nodes w.0 p laid.row w.1 s.1 (omega arith) in inr (w.0, w.1, w.2, omega arith, w.4 ∙ s.4)) leads.known;
      newest = λ q among e.
          let a = answering layout kind key q e in
          let low = walking.newest q among e in
          ⊎_elim
          (λ (f : q.place ≡ p.place). let same = same_place start nodes q p laid.row among s.1 f in absurd (false≢true (sym (none p s.2) ∙ sym (ap (answers kind key) same) ∙ e)))
          (λ (n : q.place ≢ p.place). leads.none_between q among a.0 (a.1 ∙ sym s.4) (omega arith))
          (cases_eq q.place p.place);
    }

-- ---- the newest node that answers

-- no node answers
find_none : (test : Placed → Bool) (nodes : List Placed) → ((q : Placed) → Among q nodes → test q ≡ true → ⊥) → find test nodes ≡ None
find_none test [] none = refl
find_none test (p ∷ nodes) none = by (test p) refl (find_none test nodes (λ q among. none q (inr among))) where
  by : (b : Bool) → test p ≡ b → find test nodes ≡ None → cond b (Some p) (find test nodes) ≡ None
  by true e rest = absurd (none p (inl refl) e)
  by false e rest = rest

-- this node answers, and no newer one does
find_newest : (start : ℕ) (test : Placed → Bool) (nodes : List Placed) (p : Placed) → InRow start nodes → Among p nodes → test p ≡ true → ((q : Placed) → Among q nodes → test q ≡ true → q.place ≤ p.place) → place_of (find test nodes) ≡ Some p.place
find_newest start test [] p row among yes_p newest = absurd among
find_newest start test (r ∷ older) p row among yes_p newest = by (test r) refl among (λ m. find_newest start test older p row.1 m yes_p (λ q n. newest q (inr n))) where
  by : (b : Bool) → test r ≡ b → Among p (r ∷ older) → (Among p older → place_of (find test older) ≡ Some p.place) → place_of (cond b (Some r) (find test older)) ≡ Some p.place
  by true e (inl same) rest = ap (λ (q : Placed). Some q.place) (sym same)
  by true e (inr m) rest = let low = newest r (inl refl) e in let here = within start older p row.1 m in let first = row.0 in absurd (omega arith)
  by false e (inl same) rest = absurd (false≢true (sym e ∙ ap test (sym same) ∙ yes_p))
  by false e (inr m) rest = rest m

pub walk_finds : (words : List ℕ) (layout : Layout) (kind : ℕ) (key : List ℕ) (nodes : List Placed) (at below : ℕ) → IsLayout layout → Laid words layout nodes → Walking layout kind key nodes at below → arena_start layout ≤ at → ((p : Placed) → IsNodeAt words at p → answers kind key p ≡ true) → Some at ≡ place_of (newest_for kind key nodes)
walk_finds words layout kind key nodes at below sizes laid walking high yes_p =
    let s = stands_at words layout kind key nodes at below sizes laid walking high in
    let place : s.0.place ≡ at = s.2.place in
    sym (find_newest (arena_start layout) (answers kind key) nodes s.0 laid.row s.1 (yes_p s.0 s.2) (λ q among e. let low = walking.newest q among e in omega arith) ∙ ap (λ (a : ℕ). Some a) place)

pub walk_ends : (words : List ℕ) (layout : Layout) (kind : ℕ) (key : List ℕ) (nodes : List Placed) (at below : ℕ) → Laid words layout nodes → Walking layout kind key nodes at below → (arena_start layout ≤ at → at + 8 ≤ below → ⊥) → None ≡ place_of (newest_for kind key nodes)
walk_ends words layout kind key nodes at below laid walking over =
    let none : (q : Placed) → Among q nodes → answers kind key q ≡ true → ⊥ = λ q among e.
    let here = within (arena_start layout) nodes q laid.row among in
    let low = walking.newest q among e in
    ⊎_elim
    (λ (z : at ≡ 0). absurd (omega arith))
    (λ (w : (p : Placed) × Among p nodes × (p.place ≡ at) × (at + 8 ≤ below) × (bucket_in layout p ≡ bucket_of layout kind key)). let at_p = within (arena_start layout) nodes w.0 laid.row w.1 in let place = w.2 in over (omega arith) w.3)
    walking.known in
    sym (ap place_of (find_none (answers kind key) nodes none))
