-- The words of a shelf, by the nodes that they hold.
use Rattle.std.proofs.Common.{◌≡◌, ◌≢◌, ℕ, ◌+◌, ◌-◌, ◌<◌, ◌≤◌, ◌⊎◌, inl, inr, ⊎_elim, Bool, true, false, cond, ◌&&◌, not, eqb, eq-eqb, List, [], ◌∷◌, length, map, find, slice_index, Some, None, refl, sym, ap, subst, ◌∙◌, arith}
use Rattle.std.specs.Bool.{Decides}
use Rattle.std.specs.Str.{bytes_eq}
use Rattle.std.proofs.lemmas.Bool.{cases_eq, eqb-true, false≢true, ne_eqb}
use Rattle.std.proofs.lemmas.Bool.Decides.{same_from_decides}
use Rattle.std.proofs.lemmas.List.{length-map, map-append}
use Rattle.std.proofs.lemmas.Slice.Eq.{bytes_eq-Decides}
use Rattle.nsc_words.specs.declared.layout.Layout.{Layout}
use Rattle.nsc_words.specs.declared.node.Placed.{Placed}
use Rattle.nsc_words.specs.Laid.{Among, Laid, Rising, answers, end_of, place_of}
use Rattle.nsc_words.specs.Layout.{IsLayout, arena_start}
use Rattle.nsc_arena.specs.Changes.{IsMark, changed_at, ended, with_reloads}
use Rattle.nsc_arena.specs.ReadBack.{nodes_in}
use Rattle.nsc_arena.specs.Written.{IsSameHead}
use Rattle.nsc_arena.proofs.ReadBack.{read_back}
use Rattle.nsc_arena.proofs.Changed.{IsChange, change_at, ended_is, from_map, reloads_is, same_end}
use Rattle.nsc_arena.proofs.Rows.{same_place}
use Rattle.nsc_arena.proofs.Walks.{both}
use Rattle.nsc_model.specs.declared.answer.Request.{Request}
use Rattle.nsc_model.specs.declared.kind.Kind.{Kind}
use Rattle.nsc_model.specs.Kinds.{is_request, type_number}
use Rattle.nsc_model.specs.Machine.{Kept, last_count, live_entry, used_by, used_now}
use Rattle.nsc_model.proofs.KindNumbers.{kind_again}
use Rattle.nsc_shelf.specs.declared.finding.Mark.{Mark}
use Rattle.nsc_rule.specs.Entries.{entries_in, kept_in, kind_of, kind_or, request_in}
use Rattle.nsc_shelf.specs.Shelf.{AreEntries, IsShelf, Shelf, is_numbered, others_than, shelf_of}
use Rattle.nsc_shelf.specs.Uses.{uses_at}
use Rattle.nsc_shelf.proofs.Entries.{find_none, find_one, left, mapped, none_found, one_less}

-- what a shelf is, where the words with its counts have those of other words
pub view_by : (words : List ℕ) (map : Layout) (nodes : List Placed) (inserted cycle : ℕ) (like : List ℕ) → Laid words map nodes → slice_index words 4 ≡ inserted → slice_index words 0 ≡ cycle → ((i : ℕ) → 4 < i → i < 10 → slice_index words i ≡ slice_index like i)
    → shelf_of words map ≡ record { entries = entries_in nodes; used = end_of (arena_start map) nodes - arena_start map; inserted = inserted; cycle = cycle; add_failed = slice_index like 9; hits = uses_at like 5; misses = uses_at like 7 }
view_by words map nodes inserted cycle like laid e4 e0 same =
    let back = read_back words map nodes laid in
    let e5 = same 5 (omega arith) (omega arith) in
    let e6 = same 6 (omega arith) (omega arith) in
    let e7 = same 7 (omega arith) (omega arith) in
    let e8 = same 8 (omega arith) (omega arith) in
    let e9 = same 9 (omega arith) (omega arith) in
    λ i. record { entries = entries_in (back i); used = end_of (arena_start map) (back i) - arena_start map; inserted = e4 i; cycle = e0 i; add_failed = e9 i; hits = record { found = e5 i; not_found = e6 i }; misses = record { found = e7 i; not_found = e8 i } }

pub shelf_by : (words : List ℕ) (map : Layout) (nodes : List Placed) (inserted count : ℕ) (mark : Mark) → IsLayout map → Laid words map nodes → AreEntries nodes inserted → slice_index words 4 ≡ inserted → inserted ≤ last_count → count ≡ length (entries_in nodes) → IsMark map nodes mark.place mark.number → IsShelf words map count mark
shelf_by words map nodes inserted count mark sizes laid entries e4 counted live marked =
    let same = sym (read_back words map nodes laid) in
    record {
      sizes = sizes;
      laid = subst (Laid words map) same laid;
      entries = subst (λ (ps : List Placed). AreEntries ps (slice_index words 4)) same (subst (AreEntries nodes) (sym e4) entries);
      counted = omega arith;
      live = live ∙ ap (λ (ps : List Placed). length (entries_in ps)) same;
      marked = subst (λ (ps : List Placed). IsMark map ps mark.place mark.number) same marked;
    }

-- ---- the entries of other nodes

same_request : (f : Placed → Placed) → IsChange f → (p : Placed) → request_in (f p) ≡ request_in p
same_request f is p i = record { kind = kind_of (is.kind p i); key = is.key p i }

changed_entries : (f : Placed → Placed) (nodes : List Placed) (inserted : ℕ) → IsChange f → AreEntries nodes inserted → AreEntries (map f nodes) inserted
changed_entries f nodes inserted leaves are = record {
  kinds = λ q among. let w = from_map f nodes q among in subst (λ (n : ℕ). type_number (kind_of n) ≡ n) (sym (ap (λ (r : Placed). r.node.kind) w.2 ∙ leaves.kind w.0)) (are.kinds w.0 w.1);
  numbers = λ q among. let w = from_map f nodes q among in subst (λ (n : ℕ). n < inserted) (sym (ap (λ (r : Placed). r.node.number) w.2 ∙ leaves.number w.0)) (are.numbers w.0 w.1);
  apart = λ p q a b u v same.
      let x = from_map f nodes p a in
      let y = from_map f nodes q b in
      let px : request_in p ≡ request_in x.0 = ap request_in x.2 ∙ same_request f leaves x.0 in
      let qy : request_in q ≡ request_in y.0 = ap request_in y.2 ∙ same_request f leaves y.0 in
      let one = subst (λ (r : Request). is_request r (request_in q) ≡ true) px same in
      let two = subst (λ (r : Request). is_request (request_in x.0) r ≡ true) qy one in
      let nx : p.node.number ≡ x.0.node.number = ap (λ (r : Placed). r.node.number) x.2 ∙ leaves.number x.0 in
      let ny : q.node.number ≡ y.0.node.number = ap (λ (r : Placed). r.node.number) y.2 ∙ leaves.number y.0 in
      let ux = leaves.usable x.0 (sym (ap (λ (r : Placed). r.usable) x.2) ∙ u) in
      let uy = leaves.usable y.0 (sym (ap (λ (r : Placed). r.usable) y.2) ∙ v) in
      nx ∙ are.apart x.0 y.0 x.1 y.1 ux uy two ∙ sym ny;
}

-- a mark stays one
marked_still : (f : Placed → Placed) (layout : Layout) (nodes : List Placed) (from number : ℕ) → IsChange f → IsMark layout nodes from number → IsMark layout (map f nodes) from number
marked_still f layout nodes from number leaves mark = record {
  newer = map f mark.newer;
  older = map f mark.older;
  split = ap (map f) mark.split ∙ map-append f mark.newer mark.older;
  place = mark.place ∙ sym (same_end f (arena_start layout) mark.older leaves);
  below = λ q among. let w = from_map f mark.older q among in subst (λ (n : ℕ). n < number) (sym (ap (λ (r : Placed). r.node.number) w.2 ∙ leaves.number w.0)) (mark.below w.0 w.1);
}

-- the words of a shelf were changed, and it is this one then
pub record Altered (old new : List ℕ) (layout : Layout) (count : ℕ) (mark : Mark) (after : Shelf) : Type 0 where
  pub cycle : slice_index new 0 ≡ slice_index old 0
  pub epoch : slice_index new 1 ≡ slice_index old 1
  pub source : slice_index new 2 ≡ slice_index old 2
  pub shelf : IsShelf new layout count mark
  pub view : shelf_of new layout ≡ after

-- by two changes, one after the other
pub altered_then : {a b c : List ℕ} {layout : Layout} {count count' : ℕ} {mark mark' : Mark} {mid after : Shelf} → Altered a b layout count mark mid → Altered b c layout count' mark' after → Altered a c layout count' mark' after
altered_then first second = record { cycle = second.cycle ∙ first.cycle; epoch = second.epoch ∙ first.epoch; source = second.source ∙ first.source; shelf = second.shelf; view = second.view }

-- once its nodes were changed so
pub altered : (f : Placed → Placed) (old new : List ℕ) (layout : Layout) (count count' : ℕ) (mark : Mark) (entries : List Kept) → IsChange f → IsShelf old layout count mark → Laid new layout (map f (nodes_in old layout)) → IsSameHead old new → entries_in (map f (nodes_in old layout)) ≡ entries → count' ≡ length entries → Altered old new layout count' mark (record (shelf_of old layout) { entries = entries })
altered f old new layout count count' mark entries leaves is laid head same live =
    let nodes : List Placed = nodes_in old layout in
    let e0 = head 0 (omega arith) (omega arith) in
    let e4 = head 4 (omega arith) (omega arith) in
    let before : end_of (arena_start layout) (map f nodes) ≡ end_of (arena_start layout) nodes = same_end f (arena_start layout) nodes leaves in
    record {
      cycle = e0;
      epoch = head 1 (omega arith) (omega arith);
      source = head 2 (omega arith) (omega arith);
      shelf = shelf_by new layout (map f nodes) (slice_index old 4) count' mark is.sizes laid (changed_entries f nodes (slice_index old 4) leaves is.entries) e4 is.counted (live ∙ ap length (sym same)) (marked_still f layout nodes mark.place mark.number leaves is.marked);
      view = view_by new layout (map f nodes) (slice_index old 4) (slice_index old 0) old laid e4 e0 (λ i low high. head i (omega arith) (omega arith)) ∙ (λ i. record (shelf_of old layout) { entries = same i; used = before i - arena_start layout });
    }

-- and where a newer node comes
pub marked_more : (layout : Layout) (nodes : List Placed) (p : Placed) (from number : ℕ) → IsMark layout nodes from number → IsMark layout (p ∷ nodes) from number
marked_more layout nodes p from number mark = record { newer = p ∷ mark.newer; older = mark.older; split = ap (λ (ps : List Placed). p ∷ ps) mark.split; place = mark.place; below = mark.below }

-- ---- requests

decides_and : (a b : ℕ) (x y : List ℕ) → Decides (eqb a b && bytes_eq x y) ((a ≡ b) × (x ≡ y))
decides_and a b x y = (
  λ e. let w = both (eqb a b) (bytes_eq x y) e in (eqb-true a b w.0, (bytes_eq-Decides x y).0 w.1),
  λ h. ap (λ (t : Bool). t && bytes_eq x y) (eq-eqb a b h.0) ∙ (bytes_eq-Decides x y).1 h.1,
)

-- a usable node answers a request where its entry does
pub asked : (kind : Kind) (key : List ℕ) (p : Placed) → type_number (kind_of p.node.kind) ≡ p.node.kind → p.usable ≡ true → answers (type_number kind) key p ≡ is_request (record { kind = kind; key = key }) (request_in p)
asked kind key p known usable =
    let one = decides_and p.node.kind (type_number kind) p.node.key key in
    let two = decides_and (type_number kind) (type_number (kind_of p.node.kind)) key p.node.key in
    let turned : Decides (eqb (type_number kind) (type_number (kind_of p.node.kind)) && bytes_eq key p.node.key) ((p.node.kind ≡ type_number kind) × (p.node.key ≡ key)) = (λ e. let w = two.0 e in (sym known ∙ sym w.0, sym w.1), λ h. two.1 (sym h.0 ∙ sym known, sym h.1)) in
    ap (λ (b : Bool). b && (eqb p.node.kind (type_number kind) && bytes_eq p.node.key key)) usable ∙ same_from_decides (eqb p.node.kind (type_number kind) && bytes_eq p.node.key key) (eqb (type_number kind) (type_number (kind_of p.node.kind)) && bytes_eq key p.node.key) one turned

-- two that answer one request have one
pub same_asked : (r : Request) (p q : Placed) → is_request r (request_in p) ≡ true → is_request r (request_in q) ≡ true → is_request (request_in p) (request_in q) ≡ true
same_asked r p q a b =
    let x = (decides_and (type_number r.kind) (type_number (kind_of p.node.kind)) r.key p.node.key).0 a in
    let y = (decides_and (type_number r.kind) (type_number (kind_of q.node.kind)) r.key q.node.key).0 b in
    (decides_and (type_number (kind_of p.node.kind)) (type_number (kind_of q.node.kind)) p.node.key q.node.key).1 (sym x.0 ∙ y.0, sym x.1 ∙ y.1)

pub usable_answers : (kind : ℕ) (key : List ℕ) (p : Placed) → answers kind key p ≡ true → p.usable ≡ true
usable_answers kind key p e = (both p.usable (eqb p.node.kind kind && bytes_eq p.node.key key) e).0

-- the live entry of a request, by a node that answers it, or by that none does
pub live_at : (nodes : List Placed) (inserted : ℕ) (kind : Kind) (key : List ℕ) (n : Placed) → AreEntries nodes inserted → Rising nodes → Among n nodes → answers (type_number kind) key n ≡ true → live_entry (record { kind = kind; key = key }) (entries_in nodes) ≡ Some (kept_in n)
live_at nodes inserted kind key n are rising among e =
    let r : Request = record { kind = kind; key = key } in
    let usable = usable_answers (type_number kind) key n e in
    let here : is_request r (request_in n) ≡ true = sym (asked kind key n (are.kinds n among) usable) ∙ e in
    find_one (λ k. is_request r k.entry.request) nodes n rising among usable here (λ p m u t. let same = are.apart p n m among u usable (same_asked r p n t here) in omega arith)

pub live_none : (nodes : List Placed) (inserted : ℕ) (kind : Kind) (key : List ℕ) → AreEntries nodes inserted → ((p : Placed) → Among p nodes → answers (type_number kind) key p ≡ false) → live_entry (record { kind = kind; key = key }) (entries_in nodes) ≡ None
live_none nodes inserted kind key are none =
    find_none (λ k. is_request (record { kind = kind; key = key }) k.entry.request) nodes (λ p m u. sym (asked kind key p (are.kinds p m) u) ∙ none p m)

-- what a walk gives
pub found_place : (test : Placed → Bool) (nodes : List Placed) (at : ℕ) → place_of (find test nodes) ≡ Some at → (p : Placed) × Among p nodes × (p.place ≡ at) × (test p ≡ true)
found_place test [] at e = absurd cc
found_place test (p ∷ older) at e = by (test p) refl e (found_place test older at) where
  by : (b : Bool) → test p ≡ b → place_of (cond b (Some p) (find test older)) ≡ Some at → (place_of (find test older) ≡ Some at → (q : Placed) × Among q older × (q.place ≡ at) × (test q ≡ true)) → (q : Placed) × Among q (p ∷ older) × (q.place ≡ at) × (test q ≡ true)
  by true t h rest = let place : p.place ≡ at = cc in (p, inl refl, place, t)
  by false t h rest = let w = rest h in (w.0, inr w.1, w.2, w.3)

pub missing_place : (test : Placed → Bool) (nodes : List Placed) → place_of (find test nodes) ≡ None → (p : Placed) → Among p nodes → test p ≡ false
missing_place test [] e p among = absurd among
missing_place test (q ∷ older) e p among = by (test q) refl e among (missing_place test older) where
  by : (b : Bool) → test q ≡ b → place_of (cond b (Some q) (find test older)) ≡ None → Among p (q ∷ older) → (place_of (find test older) ≡ None → (r : Placed) → Among r older → test r ≡ false) → test p ≡ false
  by true t h m rest = absurd cc
  by false t h (inl same) rest = ap test same ∙ t
  by false t h (inr m) rest = rest h p m

-- nodes of one number are one
pub same_number : (nodes : List Placed) (p q : Placed) → Rising nodes → Among p nodes → Among q nodes → p.node.number ≡ q.node.number → p ≡ q
same_number [] p q rising a b e = absurd a
same_number (r ∷ older) p q rising (inl x) (inl y) e = x ∙ sym y
same_number (r ∷ older) p q rising (inl x) (inr b) e = let less = rising.0 q b in let f : p.node.number ≡ r.node.number = ap (λ (s : Placed). s.node.number) x in absurd (omega arith)
same_number (r ∷ older) p q rising (inr a) (inl y) e = let less = rising.0 p a in let f : q.node.number ≡ r.node.number = ap (λ (s : Placed). s.node.number) y in absurd (omega arith)
same_number (r ∷ older) p q rising (inr a) (inr b) e = same_number older p q rising.1 a b e

-- ---- the changes

-- the entry of a number leaves
taken_cases : (words : List ℕ) (layout : Layout) (nodes : List Placed) (n : Placed) (at number : ℕ) → Laid words layout nodes → Among n nodes → n.place ≡ at → n.node.number ≡ number → (q : Placed) → Among q nodes → q.usable ≡ true
    → ((not (is_numbered number (kept_in q)) ≡ true) × (cond (eqb q.place at) (ended q) q ≡ q)) ⊎ ((not (is_numbered number (kept_in q)) ≡ false) × ((cond (eqb q.place at) (ended q) q).usable ≡ false))
taken_cases words layout nodes n at number laid among place is q m usable = ⊎_elim
    (λ (e : q.place ≡ at).
    let same = same_place (arena_start layout) nodes q n laid.row m among (e ∙ sym place) in
    let own : q.node.number ≡ number = ap (λ (r : Placed). r.node.number) same ∙ is in
    inr (ap not (eq-eqb q.node.number number own), ap (λ (b : Bool). (cond b (ended q) q).usable) (eq-eqb q.place at e)))
    (λ (e : q.place ≢ at).
    let other : q.node.number ≢ number = λ f. e (ap (λ (r : Placed). r.place) (same_number nodes q n laid.rising m among (f ∙ sym is)) ∙ place) in
    inl (ap not (ne_eqb q.node.number number other), ap (λ (b : Bool). cond b (ended q) q) (ne_eqb q.place at e)))
    (cases_eq q.place at)

ends_stay : (at : ℕ) (q : Placed) → q.usable ≡ false → (cond (eqb q.place at) (ended q) q).usable ≡ false
ends_stay at q e = by (eqb q.place at) where
  by : (b : Bool) → (cond b (ended q) q).usable ≡ false
  by true = refl
  by false = e

taken_out : (words : List ℕ) (layout : Layout) (nodes : List Placed) (n : Placed) (at number : ℕ) → Laid words layout nodes → Among n nodes → n.place ≡ at → n.node.number ≡ number → entries_in (changed_at at ended nodes) ≡ others_than number (entries_in nodes)
taken_out words layout nodes n at number laid among place is =
    left (λ q. cond (eqb q.place at) (ended q) q) (λ k. not (is_numbered number k)) nodes (taken_cases words layout nodes n at number laid among place is) (ends_stay at)

pub taken_less : (words : List ℕ) (layout : Layout) (nodes : List Placed) (n : Placed) (at : ℕ) → Laid words layout nodes → Among n nodes → n.place ≡ at → n.usable ≡ true → length (entries_in (changed_at at ended nodes)) + 1 ≡ length (entries_in nodes)
taken_less words layout nodes n at laid among place usable =
    one_less (λ q. cond (eqb q.place at) (ended q) q) nodes n laid.rising among usable (ap (λ (b : Bool). (cond b (ended n) n).usable) (eq-eqb n.place at place))
    (λ q m differs. let e : q.place ≢ at = λ f. differs (ap (λ (r : Placed). r.node.number) (same_place (arena_start layout) nodes q n laid.row m among (f ∙ sym place))) in ap (λ (b : Bool). cond b (ended q) q) (ne_eqb q.place at e))

pub taken : (old new : List ℕ) (layout : Layout) (count : ℕ) (mark : Mark) (n : Placed) (at number : ℕ) → IsShelf old layout count mark → Laid new layout (changed_at at ended (nodes_in old layout)) → IsSameHead old new → Among n (nodes_in old layout) → n.place ≡ at → n.usable ≡ true → n.node.number ≡ number → Altered old new layout (count - 1) mark (record (shelf_of old layout) { entries = others_than number (entries_in (nodes_in old layout)) })
taken old new layout count mark n at number is laid head among place usable numbered =
    let nodes : List Placed = nodes_in old layout in
    let left = taken_out old layout nodes n at number is.laid among place numbered in
    altered _ old new layout count (count - 1) mark (others_than number (entries_in nodes)) (change_at at ended ended_is) is laid head left (omega (arith, taken_less old layout nodes n at is.laid among place usable, is.live, ap length left))

-- ---- an entry is used

reloads_usable : (at : ℕ) (p : Placed) → (cond (eqb p.place at) (with_reloads 0 p) p).usable ≡ p.usable
reloads_usable at p = by (eqb p.place at) where
  by : (b : Bool) → (cond b (with_reloads 0 p) p).usable ≡ p.usable
  by true = refl
  by false = refl

used_if : (r : Request) (k : Kept) (b : Bool) → is_request r k.entry.request ≡ b → used_by r k ≡ cond b (record k { reloads = 0 }) k
used_if r k b e = ap (λ (t : Bool). cond t (record k { reloads = 0 }) k) e

used_same : (words : List ℕ) (layout : Layout) (nodes : List Placed) (inserted : ℕ) (kind : Kind) (key : List ℕ) (n : Placed) (at : ℕ) → Laid words layout nodes → AreEntries nodes inserted → Among n nodes → n.place ≡ at → answers (type_number kind) key n ≡ true → entries_in (changed_at at (with_reloads 0) nodes) ≡ used_now (record { kind = kind; key = key }) (entries_in nodes)
used_same words layout nodes inserted kind key n at laid are among place e =
    let r : Request = record { kind = kind; key = key } in
    let usable = usable_answers (type_number kind) key n e in
    let here : is_request r (request_in n) ≡ true = sym (asked kind key n (are.kinds n among) usable) ∙ e in
    mapped (λ q. cond (eqb q.place at) (with_reloads 0 q) q) (used_by r) nodes (reloads_usable at) (λ q m u. ⊎_elim
    (λ (f : q.place ≡ at).
    let same = same_place (arena_start layout) nodes q n laid.row m among (f ∙ sym place) in
    let asks : is_request r (request_in q) ≡ true = ap (λ (p : Placed). is_request r (request_in p)) same ∙ here in
    ap (λ (b : Bool). kept_in (cond b (with_reloads 0 q) q)) (eq-eqb q.place at f) ∙ sym (used_if r (kept_in q) true asks))
    (λ (f : q.place ≢ at).
    let other : is_request r (request_in q) ≡ false = fails (is_request r (request_in q)) (λ t. f (ap (λ (p : Placed). p.place) (same_number nodes q n laid.rising m among (are.apart q n m among u usable (same_asked r q n t here))) ∙ place)) in
    ap (λ (b : Bool). kept_in (cond b (with_reloads 0 q) q)) (ne_eqb q.place at f) ∙ sym (used_if r (kept_in q) false other))
    (cases_eq q.place at))
  where
    fails : (b : Bool) → (b ≡ true → ⊥) → b ≡ false
    fails true h = absurd (h refl)
    fails false h = refl

pub reused : (old new : List ℕ) (layout : Layout) (count : ℕ) (mark : Mark) (kind : Kind) (key : List ℕ) (n : Placed) (at : ℕ) → IsShelf old layout count mark → Laid new layout (changed_at at (with_reloads 0) (nodes_in old layout)) → IsSameHead old new → Among n (nodes_in old layout) → n.place ≡ at → answers (type_number kind) key n ≡ true → Altered old new layout count mark (record (shelf_of old layout) { entries = used_now (record { kind = kind; key = key }) (entries_in (nodes_in old layout)) })
reused old new layout count mark kind key n at is laid head among place asks =
    let nodes : List Placed = nodes_in old layout in
    let r : Request = record { kind = kind; key = key } in
    altered _ old new layout count count mark (used_now r (entries_in nodes)) (change_at at (with_reloads 0) (reloads_is 0)) is laid head (used_same old layout nodes (slice_index old 4) kind key n at is.laid is.entries among place asks) (is.live ∙ sym (length-map (entries_in nodes) (used_by r)))

-- ---- a new entry

pub kind_back : (kind : Kind) → kind_of (type_number kind) ≡ kind
kind_back kind = ap kind_or (kind_again kind)

pub new_entries : (nodes : List Placed) (p : Placed) (inserted : ℕ) (kind : Kind) → AreEntries nodes inserted → p.node.kind ≡ type_number kind → p.node.number ≡ inserted → live_entry (request_in p) (entries_in nodes) ≡ None → AreEntries (p ∷ nodes) (inserted + 1)
new_entries nodes p inserted kind are is number none =
    let alone : (q : Placed) → Among q nodes → q.usable ≡ true → is_request (request_in p) (request_in q) ≡ true → ⊥ = λ q m u t. false≢true (sym (none_found (λ k. is_request (request_in p) k.entry.request) nodes none q m u) ∙ t) in
    record {
      kinds = λ q among. ⊎_elim (λ (e : q ≡ p). let k : q.node.kind ≡ type_number kind = ap (λ (r : Placed). r.node.kind) e ∙ is in subst (λ (n : ℕ). type_number (kind_of n) ≡ n) (sym k) (ap type_number (kind_back kind))) (λ (m : Among q nodes). are.kinds q m) among;
      numbers = λ q among. ⊎_elim (λ (e : q ≡ p). let k : q.node.number ≡ inserted = ap (λ (r : Placed). r.node.number) e ∙ number in omega arith) (λ (m : Among q nodes). let k = are.numbers q m in omega arith) among;
      apart = λ x y a b u v t. ⊎_elim
          (λ (e : x ≡ p). ⊎_elim
          (λ (f : y ≡ p). ap (λ (r : Placed). r.node.number) (e ∙ sym f))
          (λ (m : Among y nodes). absurd (alone y m v (ap (λ (r : Placed). is_request (request_in r) (request_in y)) (sym e) ∙ t)))
          b)
          (λ (l : Among x nodes). ⊎_elim
          (λ (f : y ≡ p). absurd (alone x l u (turned (request_in x) (request_in p) (ap (λ (r : Placed). is_request (request_in x) (request_in r)) (sym f) ∙ t))))
          (λ (m : Among y nodes). are.apart x y l m u v t)
          b)
          a;
    }
  where
    turned : (r s : Request) → is_request r s ≡ true → is_request s r ≡ true
    turned r s e = let w = (decides_and (type_number r.kind) (type_number s.kind) r.key s.key).0 e in (decides_and (type_number s.kind) (type_number r.kind) s.key r.key).1 (sym w.0, sym w.1)
