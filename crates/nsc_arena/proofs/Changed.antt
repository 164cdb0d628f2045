-- A node that is changed where it stands.
use Rattle.std.proofs.Common.{◌≡◌, ◌≢◌, ℕ, ◌+◌, ◌<◌, ◌≤◌, inl, inr, ⊎_elim, Bool, true, false, cond, eqb, eq-eqb, ltb, List, [], ◌∷◌, length, map, set, slice_index, refl, sym, ap, subst, ◌∙◌, arith, get_or-set_other, get_or-set_same}
use Rattle.std.proofs.Math.ListN.{length-set}
use Rattle.std.proofs.lemmas.Bool.{cases_eq, cases_lt, false≢true, ne_eqb, lt-ltb, le-ltb}
use Rattle.nsc_words.specs.declared.layout.Layout.{Layout}
use Rattle.nsc_words.specs.declared.node.Placed.{Placed}
use Rattle.nsc_words.specs.Laid.{Among, InRow, Laid, Leads, Rising, Stands, bucket_in, end_of, words_in}
use Rattle.nsc_words.specs.Layout.{IsLayout, arena_start, bucket_of}
use Rattle.nsc_arena.specs.Changes.{IsNodeAt, changed_at, ended, with_reloads}
use Rattle.nsc_arena.proofs.Rows.{kept, moved_but, node_at, same_place, within, apart}

-- a change that leaves a node where it is, with its number and its request; it does not make an ended one usable
pub record IsChange (change : Placed → Placed) : Type 0 where
  pub place : (p : Placed) → (change p).place ≡ p.place
  pub words : (p : Placed) → words_in (change p).node ≡ words_in p.node
  pub number : (p : Placed) → (change p).node.number ≡ p.node.number
  pub kind : (p : Placed) → (change p).node.kind ≡ p.node.kind
  pub key : (p : Placed) → (change p).node.key ≡ p.node.key
  pub usable : (p : Placed) → (change p).usable ≡ true → p.usable ≡ true

-- the change at one place alone
abbrev pub at_place : ℕ → (Placed → Placed) → Placed → Placed
at_place place change p = cond (eqb p.place place) (change p) p

pub change_at : (place : ℕ) (change : Placed → Placed) → IsChange change → IsChange (at_place place change)
change_at place change is = record {
  place = λ p. by (eqb p.place place) (λ (q : Placed). q.place ≡ p.place) p (is.place p) refl;
  words = λ p. by (eqb p.place place) (λ (q : Placed). words_in q.node ≡ words_in p.node) p (is.words p) refl;
  number = λ p. by (eqb p.place place) (λ (q : Placed). q.node.number ≡ p.node.number) p (is.number p) refl;
  kind = λ p. by (eqb p.place place) (λ (q : Placed). q.node.kind ≡ p.node.kind) p (is.kind p) refl;
  key = λ p. by (eqb p.place place) (λ (q : Placed). q.node.key ≡ p.node.key) p (is.key p) refl;
  usable = λ p. by (eqb p.place place) (λ (q : Placed). q.usable ≡ true → p.usable ≡ true) p (is.usable p) (λ e. e);
} where
  by : (b : Bool) (P : Placed → Type 0) (p : Placed) → P (change p) → P p → P (cond b (change p) p)
  by true P p here other = here
  by false P p here other = other

pub into_map : (f : Placed → Placed) (nodes : List Placed) (p : Placed) → Among p nodes → Among (f p) (map f nodes)
into_map f [] p among = absurd among
into_map f (q ∷ nodes) p (inl e) = inl (ap f e)
into_map f (q ∷ nodes) p (inr among) = inr (into_map f nodes p among)

-- a node of the new list is one of the old list, changed
pub from_map : (f : Placed → Placed) (nodes : List Placed) (q : Placed) → Among q (map f nodes) → (p : Placed) × Among p nodes × (q ≡ f p)
from_map f [] q among = absurd among
from_map f (p ∷ nodes) q (inl e) = (p, inl refl, e)
from_map f (p ∷ nodes) q (inr among) = let w = from_map f nodes q among in (w.0, inr w.1, w.2)

pub same_end : (f : Placed → Placed) (start : ℕ) (nodes : List Placed) → IsChange f → end_of start (map f nodes) ≡ end_of start nodes
same_end f start [] is = refl
same_end f start (p ∷ nodes) is = λ i. is.place p i + is.words p i

module _ (layout : Layout) (f : Placed → Placed) (is : IsChange f) where
  same_bucket : (p : Placed) → bucket_in layout (f p) ≡ bucket_in layout p
  same_bucket p i = bucket_of layout (is.kind p i) (is.key p i)

  same_row : (start : ℕ) (nodes : List Placed) → InRow start nodes → InRow start (map f nodes)
  same_row start [] row = tt
  same_row start (p ∷ nodes) row = (is.place p ∙ row.0 ∙ sym (same_end f start nodes is), same_row start nodes row.1)

  same_rising : (nodes : List Placed) → Rising nodes → Rising (map f nodes)
  same_rising [] rising = tt
  same_rising (p ∷ nodes) rising = (λ q among. let w = from_map f nodes q among in let e : q.node.number ≡ (f w.0).node.number = ap (λ (r : Placed). r.node.number) w.2 in let m = is.number w.0 in let n = is.number p in let less = rising.0 w.0 w.1 in omega arith, same_rising nodes rising.1)

  same_leads : (nodes : List Placed) (bucket below to : ℕ) → Leads layout nodes bucket below to → Leads layout (map f nodes) bucket below to
  same_leads nodes bucket below to leads = record {
    known = ⊎_elim (λ (e : to ≡ 0). inl e) (λ (w : (p : Placed) × Among p nodes × (p.place ≡ to) × (to < below) × (bucket_in layout p ≡ bucket)). inr (f w.0, into_map f nodes w.0 w.1, is.place w.0 ∙ w.2, w.3, same_bucket w.0 ∙ w.4)) leads.known;
    none_between = λ q among usable of lower.
        let w = from_map f nodes q among in
        let place : q.place ≡ w.0.place = ap (λ (r : Placed). r.place) w.2 ∙ is.place w.0 in
        let lows : w.0.place ≤ to = leads.none_between w.0 w.1 (is.usable w.0 (sym (ap (λ (r : Placed). r.usable) w.2) ∙ usable)) (sym (same_bucket w.0) ∙ sym (ap (bucket_in layout) w.2) ∙ of) (omega arith) in
        omega arith;
  }

  -- where each node stands as it is changed, and no other word that counts is met
  pub same_laid : (old new : List ℕ) (nodes : List Placed) → Laid old layout nodes → length new ≡ length old → ((i : ℕ) → i < arena_start layout → slice_index new i ≡ slice_index old i) → ((p : Placed) → Among p nodes → Stands new (f p)) → ((p : Placed) → Among p nodes → slice_index new (p.place + 7) ≡ slice_index old (p.place + 7)) → Laid new layout (map f nodes)
  same_laid old new nodes laid size first stands next =
      let start : ℕ = arena_start layout in
      let end = same_end f start nodes is in
      let room = laid.room in
      record {
        table = size ∙ laid.table;
        first_free = first 3 (omega arith) ∙ laid.first_free ∙ sym end;
        room = omega arith;
        row = same_row start nodes laid.row;
        rising = same_rising nodes laid.rising;
        stands = λ q among. let w = from_map f nodes q among in subst (Stands new) (sym w.2) (stands w.0 w.1);
        buckets = λ i more. subst (λ (to : ℕ). Leads layout (map f nodes) (16 + i) (end_of start (map f nodes)) to) (sym (first (16 + i) (omega arith))) (subst (λ (below : ℕ). Leads layout (map f nodes) (16 + i) below (slice_index old (16 + i))) (sym end) (same_leads nodes (16 + i) (end_of start nodes) (slice_index old (16 + i)) (laid.buckets i more)));
        nexts = λ q among.
            let w = from_map f nodes q among in
            let place : q.place ≡ w.0.place = ap (λ (r : Placed). r.place) w.2 ∙ is.place w.0 in
            let bucket : bucket_in layout q ≡ bucket_in layout w.0 = ap (bucket_in layout) w.2 ∙ same_bucket w.0 in
            let leads = same_leads nodes (bucket_in layout w.0) w.0.place (slice_index old (w.0.place + 7)) (laid.nexts w.0 w.1) in
            subst (λ (to : ℕ). Leads layout (map f nodes) (bucket_in layout q) q.place to) (sym (ap (λ (a : ℕ). slice_index new (a + 7)) place ∙ next w.0 w.1)) (subst (λ (a : ℕ). Leads layout (map f nodes) (bucket_in layout q) a (slice_index old (w.0.place + 7))) (sym place) (subst (λ (b : ℕ). Leads layout (map f nodes) b w.0.place (slice_index old (w.0.place + 7))) (sym bucket) leads));
      }

-- one word of a node was set, RELOADS or STATE
pub set_in_node : (old new : List ℕ) (layout : Layout) (nodes : List Placed) (p : Placed) (at k value : ℕ) (change : Placed → Placed) → IsLayout layout → IsChange change → Laid old layout nodes → Among p nodes → p.place ≡ at → 5 ≤ k → k ≤ 6 → new ≡ set old (at + k) value → ((q : Placed) → q.place ≡ at → Stands old q → ((i : ℕ) → i ≢ k → slice_index new (q.place + i) ≡ slice_index old (q.place + i)) → slice_index new (q.place + k) ≡ value → Stands new (change q)) → Laid new layout (changed_at at change nodes)
set_in_node old new layout nodes p at k value change sizes is laid among place low high set_is stands =
    let start : ℕ = arena_start layout in
    let here = within start nodes p laid.row among in
    let room = laid.room in
    let table = laid.table in
    let size : length new ≡ length old = ap length set_is ∙ length-set old (at + k) value in
    let other : (i : ℕ) → i ≢ at + k → slice_index new i ≡ slice_index old i = λ i n. ap (λ (ws : List ℕ). slice_index ws i) set_is ∙ get_or-set_other old (at + k) i value 0 n in
    let set_k : slice_index new (at + k) ≡ value = ap (λ (ws : List ℕ). slice_index ws (at + k)) set_is ∙ get_or-set_same old (at + k) value 0 (omega arith) in
    let by_place : (q : Placed) → Among q nodes → Stands new (at_place at change q) = λ q m.
    ⊎_elim
    (λ (e : q.place ≡ at).
    let test : eqb q.place at ≡ true = eq-eqb q.place at e in
    let changed = stands q e (laid.stands q m) (λ i n. other (q.place + i) (omega arith)) (ap (λ (a : ℕ). slice_index new (a + k)) e ∙ set_k) in
    subst (λ (b : Bool). Stands new (cond b (change q) q)) (sym test) changed)
    (λ (n : q.place ≢ at).
    let test : eqb q.place at ≡ false = ne_eqb q.place at n in
    let far : (i : ℕ) → i < words_in q.node → q.place + i ≢ at + k = λ i more. ⊎_elim
    (λ (l : q.place < at). let a = apart start nodes q p laid.row m among (omega arith) in let f : q.place + i < at + k = omega arith in λ (e : q.place + i ≡ at + k). absurd (omega arith))
    (λ (l : at ≤ q.place). let a = apart start nodes p q laid.row among m (omega arith) in let f : at + k < q.place + i = omega arith in λ (e : q.place + i ≡ at + k). absurd (omega arith))
    (cases_lt q.place at) in
    subst (λ (b : Bool). Stands new (cond b (change q) q)) (sym test) (kept old new q (λ i more differs. other (q.place + i) (far i more)) (laid.stands q m)))
    (cases_eq q.place at) in
    let next_far : (q : Placed) → Among q nodes → q.place + 7 ≢ at + k = λ q m. ⊎_elim
    (λ (e : q.place ≡ at). λ (f : q.place + 7 ≡ at + k). absurd (omega arith))
    (λ (n : q.place ≢ at). ⊎_elim
    (λ (l : q.place < at). let a = apart start nodes q p laid.row m among (omega arith) in λ (f : q.place + 7 ≡ at + k). absurd (omega arith))
    (λ (l : at ≤ q.place). let a = apart start nodes p q laid.row among m (omega arith) in λ (f : q.place + 7 ≡ at + k). absurd (omega arith))
    (cases_lt q.place at))
    (cases_eq q.place at) in
    same_laid layout (at_place at change) (change_at at change is) old new nodes laid size (λ i less. other i (omega arith)) by_place (λ q m. other (q.place + 7) (next_far q m))

-- a node ends
pub ended_is : IsChange ended
ended_is = record { place = λ p. refl; words = λ p. refl; number = λ p. refl; kind = λ p. refl; key = λ p. refl; usable = λ p e. absurd (false≢true e) }

pub end_laid : (old new : List ℕ) (layout : Layout) (nodes : List Placed) (p : Placed) (at : ℕ) → IsLayout layout → Laid old layout nodes → Among p nodes → p.place ≡ at → new ≡ set old (at + 6) 0 → Laid new layout (changed_at at ended nodes)
end_laid old new layout nodes p at sizes laid among place is =
    set_in_node old new layout nodes p at 6 0 ended sizes ended_is laid among place (omega arith) (omega arith) is (λ q e stands same value. record {
      node = stands.node;
      holds = moved_but old new q.place q.place q.node q.usable q.node.reloads false (λ i more a b c. same i b) stands.holds (same 5 (omega arith) ∙ stands.holds.reloads) value;
    })

-- its reloads are counted
pub reloads_is : (count : ℕ) → IsChange (with_reloads count)
reloads_is count = record { place = λ p. refl; words = λ p. refl; number = λ p. refl; kind = λ p. refl; key = λ p. refl; usable = λ p e. e }

pub reloads_laid : (old new : List ℕ) (layout : Layout) (nodes : List Placed) (p : Placed) (at count : ℕ) → IsLayout layout → Laid old layout nodes → Among p nodes → p.place ≡ at → new ≡ set old (at + 5) count → Laid new layout (changed_at at (with_reloads count) nodes)
reloads_laid old new layout nodes p at count sizes laid among place is =
    set_in_node old new layout nodes p at 5 count (with_reloads count) sizes (reloads_is count) laid among place (omega arith) (omega arith) is (λ q e stands same value. record {
      node = record { kind = stands.node.kind; key = stands.node.key; reply = stands.node.reply; key_bytes = stands.node.key_bytes; reply_bytes = stands.node.reply_bytes };
      holds = moved_but old new q.place q.place q.node q.usable count q.usable (λ i more a b c. same i a) stands.holds value (same 6 (omega arith) ∙ stands.holds.state);
    })

-- ---- all nodes end, from the oldest one on

abbrev pub ended_if : ℕ → Placed → Placed
ended_if at p = cond (ltb p.place at) (ended p) p

pub same_map : (f g : Placed → Placed) (nodes : List Placed) → ((p : Placed) → Among p nodes → f p ≡ g p) → map f nodes ≡ map g nodes
same_map f g [] same = refl
same_map f g (p ∷ nodes) same = λ i. same p (inl refl) i ∷ same_map f g nodes (λ q m. same q (inr m)) i

map_twice : (f g : Placed → Placed) (nodes : List Placed) → map f (map g nodes) ≡ map (λ p. f (g p)) nodes
map_twice f g [] = refl
map_twice f g (p ∷ nodes) = ap (λ (ps : List Placed). f (g p) ∷ ps) (map_twice f g nodes)

same_list : (nodes : List Placed) → map (λ p. p) nodes ≡ nodes
same_list [] = refl
same_list (p ∷ nodes) = ap (λ (ps : List Placed). p ∷ ps) (same_list nodes)

-- a count that is the same already changes nothing
pub reloads_kept : (layout : Layout) (nodes : List Placed) (p : Placed) (at count : ℕ) → InRow (arena_start layout) nodes → Among p nodes → p.place ≡ at → p.node.reloads ≡ count → changed_at at (with_reloads count) nodes ≡ nodes
reloads_kept layout nodes p at count row among place is = same_map (at_place at (with_reloads count)) (λ q. q) nodes (λ q m. ⊎_elim
    (λ (e : q.place ≡ at).
    let own : q.node.reloads ≡ count = ap (λ (r : Placed). r.node.reloads) (same_place (arena_start layout) nodes q p row m among (e ∙ sym place)) ∙ is in
    ap (λ (b : Bool). cond b (with_reloads count q) q) (eq-eqb q.place at e) ∙ (λ i. record q { node = record q.node { reloads = sym own i } }))
    (λ (n : q.place ≢ at). ap (λ (b : Bool). cond b (with_reloads count q) q) (ne_eqb q.place at n))
    (cases_eq q.place at)) ∙ same_list nodes

stays_if : (at : ℕ) (p : Placed) → at ≤ p.place → ended_if at p ≡ p
stays_if at p high = ap (λ (b : Bool). cond b (ended p) p) (le-ltb p.place at high)

ends_if : (at : ℕ) (p : Placed) → p.place < at → ended_if at p ≡ ended p
ends_if at p low = ap (λ (b : Bool). cond b (ended p) p) (lt-ltb p.place at low)

-- before the first none ended
pub none_ended : (layout : Layout) (nodes : List Placed) (at : ℕ) → InRow (arena_start layout) nodes → at ≡ arena_start layout → map (ended_if at) nodes ≡ nodes
none_ended layout nodes at row is = same_map (ended_if at) (λ p. p) nodes (λ p m. let here = within (arena_start layout) nodes p row m in stays_if at p (omega arith)) ∙ same_list nodes

-- behind the last all did
pub whole_ended : (layout : Layout) (nodes : List Placed) (at : ℕ) → InRow (arena_start layout) nodes → end_of (arena_start layout) nodes ≤ at → map (ended_if at) nodes ≡ map ended nodes
whole_ended layout nodes at row over = same_map (ended_if at) ended nodes (λ p m. let here = within (arena_start layout) nodes p row m in ends_if at p (omega arith))

-- one more ends
pub one_ended : (layout : Layout) (nodes : List Placed) (n : Placed) (at : ℕ) → InRow (arena_start layout) nodes → Among n nodes → n.place ≡ at → changed_at at ended (map (ended_if at) nodes) ≡ map (ended_if (at + words_in n.node)) nodes
one_ended layout nodes n at row among place =
    map_twice (at_place at ended) (ended_if at) nodes
    ∙ same_map (λ p. at_place at ended (ended_if at p)) (ended_if (at + words_in n.node)) nodes (λ p m. ⊎_elim
    (λ (l : p.place < at).
    let ne : p.place ≢ at = omega arith in
    ap (at_place at ended) (ends_if at p l) ∙ ap (λ (b : Bool). cond b (ended (ended p)) (ended p)) (ne_eqb p.place at ne) ∙ sym (ends_if (at + words_in n.node) p (omega arith)))
    (λ (h : at ≤ p.place). ap (at_place at ended) (stays_if at p h) ∙ ⊎_elim
    (λ (e : p.place ≡ at). ap (λ (b : Bool). cond b (ended p) p) (eq-eqb p.place at e) ∙ sym (ends_if (at + words_in n.node) p (omega arith)))
    (λ (ne : p.place ≢ at). let far = apart (arena_start layout) nodes n p row among m (omega arith) in ap (λ (b : Bool). cond b (ended p) p) (ne_eqb p.place at ne) ∙ sym (stays_if (at + words_in n.node) p (omega arith)))
    (cases_eq p.place at))
    (cases_lt p.place at))

-- a node that did not end so far is one of the changed ones
pub still_among : (nodes : List Placed) (n : Placed) (at : ℕ) → Among n nodes → n.place ≡ at → Among n (map (ended_if at) nodes)
still_among nodes n at among place = subst (λ (q : Placed). Among q (map (ended_if at) nodes)) (stays_if at n (omega arith)) (into_map (ended_if at) nodes n among)

pub ended_at : (words : List ℕ) (layout : Layout) (nodes : List Placed) (n : Placed) (at : ℕ) → IsLayout layout → Among n nodes → n.place ≡ at → Laid words layout (map (ended_if at) nodes) → IsNodeAt words at n
ended_at words layout nodes n at sizes among place laid = node_at words layout (map (ended_if at) nodes) n at sizes laid (still_among nodes n at among place) place
