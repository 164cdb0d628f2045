-- Hints of nodes, as these are changed, and what they tell.
use Rattle.std.proofs.Common.{◌≡◌, ℕ, ◌<◌, ◌≤◌, ◌⊎◌, inl, inr, ⊎_elim, Bool, true, false, cond, List, [], ◌∷◌, length, map, find, replicate, slice_index, Some, None, refl, sym, ap, subst, ◌∙◌, arith}
use Rattle.std.proofs.lemmas.Bool.{cases_lt}
use Rattle.std.proofs.lemmas.List.{get_or-replicate, get_or_past, length-replicate}
use Rattle.nsc_words.specs.declared.layout.Layout.{Layout}
use Rattle.nsc_words.specs.declared.node.Placed.{Placed}
use Rattle.nsc_words.specs.Laid.{Among, Laid, Rising, answers, newest_for, place_of}
use Rattle.nsc_words.specs.Layout.{arena_start, table_words}
use Rattle.nsc_arena.specs.Changes.{IsNodeAt, changed_at}
use Rattle.nsc_arena.specs.ReadBack.{nodes_in}
use Rattle.nsc_arena.proofs.ReadBack.{read_back}
use Rattle.nsc_arena.proofs.Changed.{IsChange, change_at, into_map}
use Rattle.nsc_arena.proofs.Rows.{node_at, within}
use Rattle.nsc_model.specs.declared.kind.Kind.{Kind}
use Rattle.nsc_model.specs.declared.answer.Request.{Request}
use Rattle.nsc_model.specs.Kinds.{is_request, type_number}
use Rattle.nsc_model.specs.Machine.{live_entry}
use Rattle.nsc_shelf.specs.declared.finding.Mark.{Mark}
use Rattle.nsc_shelf.specs.Hints.{AreHints, HasPlace, IsAlone, told_place}
use Rattle.nsc_rule.specs.Entries.{entries_in, kept_in, request_in}
use Rattle.nsc_shelf.specs.Shelf.{AreEntries, IsShelf}
use Rattle.nsc_shelf.proofs.States.{asked, found_place, live_at, live_none, missing_place, same_asked, same_number, usable_answers}

-- ---- nodes change

-- the nodes that words hold are these
pub hints_by : {words : List ℕ} {layout : Layout} {nodes : List Placed} (hints : List ℕ) → Laid words layout nodes → AreHints hints layout nodes → AreHints hints layout (nodes_in words layout)
hints_by {words} {layout} {nodes} hints laid = subst (AreHints hints layout) (sym (read_back words layout nodes laid))

-- hints that tell no place
pub no_hints_in : {layout : Layout} {nodes : List Placed} (hints : List ℕ) (count : ℕ) → hints ≡ replicate count 0 → 4 ≤ count → AreHints hints layout nodes
no_hints_in {layout} {nodes} hints count is some =
    let size : length hints ≡ count = ap length is ∙ length-replicate count 0 in
    record {
      some = omega arith;
      places = λ i told. absurd (told (ap (λ (hs : List ℕ). slice_index hs i) is ∙ zeros i));
    }
  where
    zeros : (i : ℕ) → slice_index (replicate count 0) i ≡ 0
    zeros i = ⊎_elim
        (λ (less : i < count). get_or-replicate count i 0 0 less)
        (λ (past : count ≤ i). get_or_past (replicate count 0) i 0 (omega (arith, length-replicate {A = ℕ} count 0)))
        (cases_lt i count)

-- a change leaves the places
pub hints_changed : (f : Placed → Placed) {layout : Layout} (hints : List ℕ) (nodes : List Placed) → IsChange f → AreHints hints layout nodes → AreHints hints layout (map f nodes)
hints_changed f {layout} hints nodes leaves are = record {
  some = are.some;
  places = λ i told. let w = are.places i told in (f w.0, into_map f nodes w.0 w.1, leaves.place w.0 ∙ w.2);
}

-- at one place
pub hints_changed_at : (at : ℕ) (change : Placed → Placed) {layout : Layout} (hints : List ℕ) (nodes : List Placed) → IsChange change → AreHints hints layout nodes → AreHints hints layout (changed_at at change nodes)
hints_changed_at at change {layout} hints nodes leaves = hints_changed _ hints nodes (change_at at change leaves)

-- a newer node adds one
pub hints_more : {layout : Layout} (hints : List ℕ) (nodes : List Placed) (p : Placed) → AreHints hints layout nodes → AreHints hints layout (p ∷ nodes)
hints_more {layout} hints nodes p are = record {
  some = are.some;
  places = λ i told. let w = are.places i told in (w.0, inr w.1, w.2);
}

-- the place of a node is noted, or none
pub hints_noted : (old new : List ℕ) (layout : Layout) (nodes : List Placed) (p : Placed) (place : ℕ) → AreHints old layout nodes → Among p nodes → p.place ≡ place → length new ≡ length old → ((i : ℕ) → (slice_index new i ≡ slice_index old i) ⊎ (told_place layout (slice_index new i) ≡ place)) → AreHints new layout nodes
hints_noted old new layout nodes p place are among is size each = record {
  some = subst (λ (n : ℕ). 4 ≤ n) (sym size) are.some;
  places = λ i told. ⊎_elim
      (λ (e : slice_index new i ≡ slice_index old i). subst (λ (hint : ℕ). HasPlace nodes (told_place layout hint)) (sym e) (are.places i (λ zero. told (e ∙ zero))))
      (λ (e : told_place layout (slice_index new i) ≡ place). (p, among, is ∙ sym e))
      (each i);
}

-- ---- what hints tell

-- the first of nodes that pass a test is the one that does
pub only_place : (test : Placed → Bool) (nodes : List Placed) (p : Placed) → Among p nodes → test p ≡ true → ((q : Placed) → Among q nodes → test q ≡ true → q ≡ p) → place_of (find test nodes) ≡ Some p.place
only_place test [] p among passes alone = absurd among
only_place test (q ∷ older) p among passes alone = by (test q) refl among (λ m. only_place test older p m passes (λ r n. alone r (inr n))) where
  by : (b : Bool) → test q ≡ b → Among p (q ∷ older) → (Among p older → place_of (find test older) ≡ Some p.place) → place_of (cond b (Some q) (find test older)) ≡ Some p.place
  by true t m rest = ap (λ (r : Placed). Some r.place) (alone q (inl refl) t)
  by false t (inl e) rest = absurd (let w : test p ≡ false = ap test e ∙ t in cc)
  by false t (inr m) rest = rest m

-- all usable nodes that answer a request are one
pub alone_in : (nodes : List Placed) (inserted : ℕ) (kind : Kind) (key : List ℕ) → AreEntries nodes inserted → Rising nodes → IsAlone (type_number kind) key nodes
alone_in nodes inserted kind key are rising p q a b u v =
    let r : Request = record { kind = kind; key = key } in
    let one : p.usable ≡ true = usable_answers (type_number kind) key p u in
    let two : q.usable ≡ true = usable_answers (type_number kind) key q v in
    let asks_p : is_request r (request_in p) ≡ true = sym (asked kind key p (are.kinds p a) one) ∙ u in
    let asks_q : is_request r (request_in q) ≡ true = sym (asked kind key q (are.kinds q b) two) ∙ v in
    same_number nodes p q rising a b (are.apart p q a b one two (same_asked r p q asks_p asks_q))

-- ---- what a lookup found

-- the node that a walk leads to
pub record Walked (words : List ℕ) (layout : Layout) (kind : ℕ) (key : List ℕ) (at : ℕ) : Type 0 where
  pub newest : Some at ≡ place_of (newest_for kind key (nodes_in words layout))
  pub node : Placed
  pub among : Among node (nodes_in words layout)
  pub place : node.place ≡ at
  pub from : arena_start layout ≤ at
  pub to : at < table_words layout

pub walked : {words words' : List ℕ} {layout : Layout} (kind : ℕ) (key : List ℕ) (at : ℕ) → Laid words layout (nodes_in words layout) → words' ≡ words → ((nodes : List Placed) → Laid words' layout nodes → Some at ≡ place_of (newest_for kind key nodes)) → Walked words layout kind key at
walked {words} {words'} {layout} kind key at laid same found =
    let nodes : List Placed = nodes_in words layout in
    let newest = found nodes (subst (λ (ws : List ℕ). Laid ws layout nodes) (sym same) laid) in
    let n = found_place (answers kind key) nodes at (sym newest) in
    let here = within (arena_start layout) nodes n.0 laid.row n.1 in
    record { newest = newest; node = n.0; among = n.1; place = n.2; from = omega (arith, here.0, n.2); to = omega (arith, here.1, laid.room, n.2) }

-- a usable node that answers a request
pub record Answering (words : List ℕ) (layout : Layout) (kind : Kind) (key : List ℕ) (at : ℕ) : Type 0 where
  pub node : Placed
  pub among : Among node (nodes_in words layout)
  pub here : IsNodeAt words at node
  pub live : live_entry (record { kind = kind; key = key }) (entries_in (nodes_in words layout)) ≡ Some (kept_in node)
  pub answers : answers (type_number kind) key node ≡ true

pub answering : (words : List ℕ) (layout : Layout) (count : ℕ) (mark : Mark) (kind : Kind) (key : List ℕ) (number at : ℕ) → IsShelf words layout count mark → number ≡ type_number kind → Some at ≡ place_of (newest_for number key (nodes_in words layout)) → Answering words layout kind key at
answering words layout count mark kind key number at is numbered found =
    let nodes : List Placed = nodes_in words layout in
    let n = found_place (answers (type_number kind) key) nodes at (sym (found ∙ ap (λ (k : ℕ). place_of (newest_for k key nodes)) numbered)) in
    record {
      node = n.0;
      among = n.1;
      here = node_at words layout nodes n.0 at is.sizes is.laid n.1 n.2;
      live = live_at nodes (slice_index words 4) kind key n.0 is.entries is.laid.rising n.1 n.3;
      answers = n.3;
    }

-- none does
pub unanswered : (words : List ℕ) (layout : Layout) (count : ℕ) (mark : Mark) (kind : Kind) (key : List ℕ) (number : ℕ) → IsShelf words layout count mark → number ≡ type_number kind → None ≡ place_of (newest_for number key (nodes_in words layout)) → live_entry (record { kind = kind; key = key }) (entries_in (nodes_in words layout)) ≡ None
unanswered words layout count mark kind key number is numbered found =
    let nodes : List Placed = nodes_in words layout in
    live_none nodes (slice_index words 4) kind key is.entries (missing_place (answers (type_number kind) key) nodes (sym (found ∙ ap (λ (k : ℕ). place_of (newest_for k key nodes)) numbered)))
