-- The slide of a shelf: its begin, its words, and its end.
use Rattle.std.proofs.Common.{◌≡◌, ◌≢◌, ℕ, ◌+◌, ◌-◌, ◌<◌, ◌⊎◌, inl, inr, ⊎_elim, Bool, true, false, cond, List, [], ◌∷◌, ◌++◌, set, slice_index, refl, sym, ap, subst, ◌∙◌, arith, get_or-set_same, get_or-set_other}
use Rattle.std.proofs.lemmas.List.Sums.{sum_by_push}
use Rattle.nsc_words.specs.declared.layout.Layout.{Layout}
use Rattle.nsc_words.specs.declared.node.Placed.{Placed}
use Rattle.nsc_words.specs.declared.node.Node.{Node}
use Rattle.nsc_words.specs.Laid.{Among, InRow, Laid, end_of, slid}
use Rattle.nsc_arena.proofs.Slides.{slid_from}
use Rattle.nsc_words.specs.Layout.{arena_start}
use Rattle.nsc_arena.proofs.Rows.{end_after, set_head}
use Rattle.nsc_model.specs.declared.answer.Request.{Request}
use Rattle.nsc_model.specs.Kinds.{is_request, type_number}
use Rattle.nsc_model.specs.Machine.{Kept, all_words, entry_words}
use Rattle.nsc_rule.specs.declared.view.Plan.{Plan}
use Rattle.nsc_rule.specs.Entries.{entries_in, kept_in, kind_of, request_in}
use Rattle.nsc_shelf.specs.Shelf.{AreEntries, HoldEntries, shelf_in}
use Rattle.nsc_shelf.proofs.Entries.{one_more}

-- ---- the begin

-- what a slide that begins makes of the words
pub record Begun (old new : List ℕ) (layout : Layout) (nodes : List Placed) : Type 0 where
  pub view : shelf_in nodes new layout ≡ record (shelf_in nodes old layout) { cycle = slice_index old 0 + 1 }
  pub laid : Laid new layout nodes
  pub used : slice_index new 3 ≡ arena_start layout + (end_of (arena_start layout) nodes - arena_start layout)
  pub other : (i : ℕ) → i ≢ 0 → slice_index new i ≡ slice_index old i
  pub cycle : slice_index new 0 ≡ slice_index old 0 + 1

pub begun : (old new : List ℕ) (layout : Layout) (nodes : List Placed) → Laid old layout nodes → new ≡ set old 0 (slice_index old 0 + 1) → Begun old new layout nodes
begun old new layout nodes is set_is =
    let table = is.table in
    let other : (i : ℕ) → i ≢ 0 → slice_index new i ≡ slice_index old i = λ i n. ap (λ (ws : List ℕ). slice_index ws i) set_is ∙ get_or-set_other old 0 i (slice_index old 0 + 1) 0 n in
    let e0 : slice_index new 0 ≡ slice_index old 0 + 1 = ap (λ (ws : List ℕ). slice_index ws 0) set_is ∙ get_or-set_same old 0 (slice_index old 0 + 1) 0 (omega arith) in
    let first = is.first_free in
    let low = end_after (arena_start layout) nodes is.row in
    let three = other 3 (omega arith) in
    let e4 = other 4 (omega arith) in
    let e5 = other 5 (omega arith) in
    let e6 = other 6 (omega arith) in
    let e7 = other 7 (omega arith) in
    let e8 = other 8 (omega arith) in
    let e9 = other 9 (omega arith) in
    record {
      view = λ i. record (shelf_in nodes old layout) { inserted = e4 i; cycle = e0 i; add_failed = e9 i; hits = record { found = e5 i; not_found = e6 i }; misses = record { found = e7 i; not_found = e8 i } };
      laid = set_head old new layout nodes 0 (slice_index old 0 + 1) (omega arith) (omega arith) set_is is;
      used = omega arith;
      other = other;
      cycle = e0;
    }

-- ---- the entries of other nodes

-- an entry is one of these
abbrev pub Has : Kept → List Kept → Type 0
Has k [] = ⊥
Has k (x ∷ xs) = (k ≡ x) ⊎ Has k xs

has_before : (k : Kept) (xs ys : List Kept) → Has k xs → Has k (xs ++ ys)
has_before k [] ys has = absurd has
has_before k (x ∷ xs) ys (inl is) = inl is
has_before k (x ∷ xs) ys (inr more) = inr (has_before k xs ys more)

has_last : (k : Kept) (xs : List Kept) → Has k (xs ++ k ∷ [])
has_last k [] = inl refl
has_last k (x ∷ xs) = inr (has_last k xs)

has_split : (k y : Kept) (xs : List Kept) → Has k (xs ++ y ∷ []) → Has k xs ⊎ (k ≡ y)
has_split k y [] (inl is) = inr is
has_split k y [] (inr none) = absurd none
has_split k y (x ∷ xs) (inl is) = inl (inl is)
has_split k y (x ∷ xs) (inr more) = ⊎_elim (λ (h : Has k xs). inl (inr h)) (λ (e : k ≡ y). inr e) (has_split k y xs more)

-- a usable node is an entry, and an entry is one
pub usable_has : (nodes : List Placed) (p : Placed) → Among p nodes → p.usable ≡ true → Has (kept_in p) (entries_in nodes)
usable_has [] p among usable = absurd among
usable_has (q ∷ older) p (inl is) usable =
    let own : q.usable ≡ true = ap (λ (r : Placed). r.usable) (sym is) ∙ usable in
    subst (λ (k : Kept). Has k (entries_in (q ∷ older))) (ap kept_in (sym is)) (subst (Has (kept_in q)) (sym (one_more q older own)) (has_last (kept_in q) (entries_in older)))
usable_has (q ∷ older) p (inr more) usable = by q.usable (usable_has older p more usable) where
  by : (b : Bool) → Has (kept_in p) (entries_in older) → Has (kept_in p) (cond b (entries_in older ++ kept_in q ∷ []) (entries_in older))
  by true has = has_before (kept_in p) (entries_in older) (kept_in q ∷ []) has
  by false has = has

pub node_of : (nodes : List Placed) (k : Kept) → Has k (entries_in nodes) → (p : Placed) × Among p nodes × (p.usable ≡ true) × (k ≡ kept_in p)
node_of [] k has = absurd has
node_of (q ∷ older) k has = by q.usable refl has (node_of older k) where
  by : (b : Bool) → q.usable ≡ b → Has k (cond b (entries_in older ++ kept_in q ∷ []) (entries_in older)) → (Has k (entries_in older) → (p : Placed) × Among p older × (p.usable ≡ true) × (k ≡ kept_in p)) → (p : Placed) × Among p (q ∷ older) × (p.usable ≡ true) × (k ≡ kept_in p)
  by true e h rest = ⊎_elim (λ (x : Has k (entries_in older)). let w = rest x in (w.0, inr w.1, w.2, w.3)) (λ (is : k ≡ kept_in q). (q, inl refl, e, is)) (has_split k (kept_in q) (entries_in older) h)
  by false e h rest = let w = rest h in (w.0, inr w.1, w.2, w.3)

-- other nodes that are usable, and of the same entries
pub other_entries : (old new : List Placed) (inserted : ℕ) → AreEntries old inserted → ((p : Placed) → Among p new → type_number (kind_of p.node.kind) ≡ p.node.kind) → ((p : Placed) → Among p new → p.usable ≡ true) → entries_in new ≡ entries_in old → AreEntries new inserted
other_entries old new inserted are kinds alone same =
    let from : (p : Placed) → Among p new → (q : Placed) × Among q old × (q.usable ≡ true) × (kept_in p ≡ kept_in q) = λ p among. node_of old (kept_in p) (subst (Has (kept_in p)) same (usable_has new p among (alone p among))) in
    record {
      kinds = kinds;
      numbers = λ p among. let w = from p among in subst (λ (n : ℕ). n < inserted) (sym (ap (λ (k : Kept). k.entry.number) w.3)) (are.numbers w.0 w.1);
      apart = λ p q a b u v asks.
          let x = from p a in
          let y = from q b in
          let one = subst (λ (r : Request). is_request r (request_in q) ≡ true) (ap (λ (k : Kept). k.entry.request) x.3) asks in
          let two = subst (λ (r : Request). is_request (request_in x.0) r ≡ true) (ap (λ (k : Kept). k.entry.request) y.3) one in
          ap (λ (k : Kept). k.entry.number) x.3 ∙ are.apart x.0 y.0 x.1 y.1 x.2 y.2 two ∙ sym (ap (λ (k : Kept). k.entry.number) y.3);
    }

-- where all nodes are usable, their words are those of their entries
words_alone : (start : ℕ) (nodes : List Placed) → InRow start nodes → ((p : Placed) → Among p nodes → p.usable ≡ true) → end_of start nodes ≡ start + all_words (entries_in nodes)
words_alone start [] row alone = omega arith
words_alone start (p ∷ older) row alone =
    let rest = words_alone start older row.1 (λ q m. alone q (inr m)) in
    let first = row.0 in
    let is : all_words (entries_in (p ∷ older)) ≡ all_words (entries_in older ++ kept_in p ∷ []) = ap all_words (one_more p older (alone p (inl refl))) in
    let more = sum_by_push (λ (k : Kept). entry_words k.entry) (entries_in older) (kept_in p) in
    omega arith

-- no node that is left ended, and each is of a kind
pub slid_alone : (start : ℕ) (nodes : List Placed) (q : Placed) → Among q (slid start nodes) → q.usable ≡ true
slid_alone start [] q among = absurd among
slid_alone start (p ∷ older) q among = by p.usable refl among (slid_alone start older q) where
  by : (b : Bool) → p.usable ≡ b → Among q (cond b (record p { place = end_of start (slid start older) } ∷ slid start older) (slid start older)) → (Among q (slid start older) → q.usable ≡ true) → q.usable ≡ true
  by true e (inl is) rest = ap (λ (r : Placed). r.usable) is ∙ e
  by true e (inr more) rest = rest more
  by false e more rest = rest more

pub slid_kinds : (start : ℕ) (nodes : List Placed) → ((p : Placed) → Among p nodes → type_number (kind_of p.node.kind) ≡ p.node.kind) → (q : Placed) → Among q (slid start nodes) → type_number (kind_of q.node.kind) ≡ q.node.kind
slid_kinds start nodes kinds q among = let w = slid_from start nodes q among in subst (λ (n : Node). type_number (kind_of n.kind) ≡ n.kind) (sym w.2) (kinds w.0 w.1)

-- ---- the end

-- what a slide that ends makes of the words: they hold nodes of the same entries alone
pub record Ended (plan : Plan) (new : List ℕ) (layout : Layout) (nodes : List Placed) : Type 0 where
  pub view : shelf_in nodes new layout ≡ record (shelf_in plan.nodes plan.words layout) { used = all_words (entries_in plan.nodes); cycle = slice_index plan.words 0 + 1 }
  pub laid : Laid new layout nodes
  pub entries : AreEntries nodes (slice_index new 4)
  pub other : (i : ℕ) → i ≢ 0 → slice_index new i ≡ slice_index plan.words i
  pub cycle : slice_index new 0 ≡ slice_index plan.words 0 + 1

pub ended : (plan : Plan) (new : List ℕ) (layout : Layout) (nodes : List Placed) → AreEntries plan.nodes (slice_index plan.words 4) → HoldEntries plan.words layout (entries_in plan.nodes) nodes → ((p : Placed) → Among p nodes → p.usable ≡ true) → new ≡ set plan.words 0 (slice_index plan.words 0 + 1) → Ended plan new layout nodes
ended plan new layout nodes are hold alone set_is =
    let start : ℕ = arena_start layout in
    let words : List ℕ = plan.words in
    let table = hold.laid.table in
    let laid : Laid new layout nodes = set_head words new layout nodes 0 (slice_index words 0 + 1) (omega arith) (omega arith) set_is hold.laid in
    let other : (i : ℕ) → i ≢ 0 → slice_index new i ≡ slice_index words i = λ i n. ap (λ (ws : List ℕ). slice_index ws i) set_is ∙ get_or-set_other words 0 i (slice_index words 0 + 1) 0 n in
    let e0 : slice_index new 0 ≡ slice_index words 0 + 1 = ap (λ (ws : List ℕ). slice_index ws 0) set_is ∙ get_or-set_same words 0 (slice_index words 0 + 1) 0 (omega arith) in
    let e4 = other 4 (omega arith) in
    let e5 = other 5 (omega arith) in
    let e6 = other 6 (omega arith) in
    let e7 = other 7 (omega arith) in
    let e8 = other 8 (omega arith) in
    let e9 = other 9 (omega arith) in
    let all = words_alone start nodes laid.row alone in
    let words_same : all_words (entries_in nodes) ≡ all_words (entries_in plan.nodes) = ap all_words hold.live in
    let used : end_of start nodes - start ≡ all_words (entries_in plan.nodes) = omega arith in
    record {
      view = λ i. record { entries = hold.live i; used = used i; inserted = e4 i; cycle = e0 i; add_failed = e9 i; hits = record { found = e5 i; not_found = e6 i }; misses = record { found = e7 i; not_found = e8 i } };
      laid = laid;
      entries = subst (AreEntries nodes) (sym e4) (other_entries plan.nodes nodes (slice_index words 4) are hold.kinds alone hold.live);
      other = other;
      cycle = e0;
    }
