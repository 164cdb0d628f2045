-- A node that is linked before the others of its bucket.
use Rattle.std.proofs.Common.{◌≡◌, ◌≢◌, ℕ, ◌+◌, ◌%◌, ◌<◌, ◌≤◌, inl, inr, ⊎_elim, List, ◌∷◌, length, set, slice_index, refl, sym, ap, subst, ◌∙◌, arith, get_or-set_other, get_or-set_same}
use Rattle.std.proofs.Math.ListN.{length-set}
use Rattle.std.proofs.lemmas.Bool.{cases_eq}
use Rattle.nsc_words.specs.declared.layout.Layout.{Layout}
use Rattle.nsc_words.specs.declared.node.Placed.{Placed}
use Rattle.nsc_words.specs.Hash.{hash_of}
use Rattle.nsc_words.specs.Laid.{Among, Laid, Leads, Stands, bucket_in, end_of, words_in}
use Rattle.nsc_words.specs.Layout.{IsLayout, arena_start}
use Rattle.nsc_arena.specs.Changes.{IsNext, IsNodeAt}
use Rattle.nsc_arena.proofs.Rows.{kept, within, end_after}

-- a newer node is not below an older one
pub leads_below : (layout : Layout) (nodes : List Placed) (p : Placed) (bucket below to : ℕ) → below ≤ p.place → Leads layout nodes bucket below to → Leads layout (p ∷ nodes) bucket below to
leads_below layout nodes p bucket below to newer leads = record {
  known = ⊎_elim (λ (e : to ≡ 0). inl e) (λ (w : (q : Placed) × Among q nodes × (q.place ≡ to) × (to < below) × (bucket_in layout q ≡ bucket)). inr (w.0, inr w.1, w.2, w.3, w.4)) leads.known;
  none_between = λ q among usable is lower. ⊎_elim (λ (e : q ≡ p). let at : q.place ≡ p.place = ap (λ (r : Placed). r.place) e in absurd (omega arith)) (λ (m : Among q nodes). leads.none_between q m usable is lower) among;
}

-- a newer node of another bucket
pub leads_other : (layout : Layout) (nodes : List Placed) (p : Placed) (bucket below end to : ℕ) → bucket_in layout p ≢ bucket → below ≤ end → ((q : Placed) → Among q nodes → q.place < below) → Leads layout nodes bucket below to → Leads layout (p ∷ nodes) bucket end to
leads_other layout nodes p bucket below end to differs higher all leads = record {
  known = ⊎_elim (λ (e : to ≡ 0). inl e) (λ (w : (q : Placed) × Among q nodes × (q.place ≡ to) × (to < below) × (bucket_in layout q ≡ bucket)). let lower = w.3 in inr (w.0, inr w.1, w.2, omega arith, w.4)) leads.known;
  none_between = λ q among usable is lower. ⊎_elim (λ (e : q ≡ p). absurd (differs (sym (ap (bucket_in layout) e) ∙ is))) (λ (m : Among q nodes). leads.none_between q m usable is (all q m)) among;
}

-- the newest node of its bucket
pub leads_newest : (layout : Layout) (nodes : List Placed) (p : Placed) (end : ℕ) → p.place < end → ((q : Placed) → Among q nodes → q.place ≤ p.place) → Leads layout (p ∷ nodes) (bucket_in layout p) end p.place
leads_newest layout nodes p end lower all = record {
  known = inr (p, inl refl, refl, lower, refl);
  none_between = λ q among usable is below. ⊎_elim (λ (e : q ≡ p). let at : q.place ≡ p.place = ap (λ (r : Placed). r.place) e in omega arith) (λ (m : Among q nodes). all q m) among;
}

-- three words that were set
set_three : (old new : List ℕ) (a b c x y z i : ℕ) → new ≡ set (set (set old a x) b y) c z → i ≢ a → i ≢ b → i ≢ c → slice_index new i ≡ slice_index old i
set_three old new a b c x y z i is na nb nc = ap (λ (ws : List ℕ). slice_index ws i) is ∙ get_or-set_other (set (set old a x) b y) c i z 0 nc ∙ get_or-set_other (set old a x) b i y 0 nb ∙ get_or-set_other old a i x 0 na

pub chained : (old new : List ℕ) (layout : Layout) (nodes : List Placed) (p : Placed) → IsLayout layout → IsNext old layout nodes p → new ≡ set (set (set old (p.place + 7) (slice_index old (bucket_in layout p))) (bucket_in layout p) p.place) 3 (p.place + words_in p.node) → Laid new layout (p ∷ nodes)
chained old new layout nodes p sizes next is =
    let start : ℕ = arena_start layout in
    let hash : ℕ = hash_of p.node.kind p.node.key % layout.buckets in
    let bucket : ℕ = 16 + hash in
    let some = sizes.some_bucket in
    let slot : hash < layout.buckets = omega arith in
    let after = end_after start nodes next.laid.row in
    let behind = next.place in
    let room = next.room in
    let size = next.laid.table in
    let x : ℕ = slice_index old bucket in
    let one : List ℕ = set old (p.place + 7) x in
    let two : List ℕ = set one bucket p.place in
    let length_one : length one ≡ length old = length-set old (p.place + 7) x in
    let length_two : length two ≡ length old = length-set one bucket p.place ∙ length_one in
    let length_new : length new ≡ length old = ap length is ∙ length-set two 3 (p.place + words_in p.node) ∙ length_two in
    let other : (i : ℕ) → i ≢ p.place + 7 → i ≢ bucket → i ≢ 3 → slice_index new i ≡ slice_index old i = λ i. set_three old new (p.place + 7) bucket 3 x p.place (p.place + words_in p.node) i is in
    let at_three : slice_index new 3 ≡ p.place + words_in p.node = ap (λ (ws : List ℕ). slice_index ws 3) is ∙ get_or-set_same two 3 (p.place + words_in p.node) 0 (omega arith) in
    let at_bucket : slice_index new bucket ≡ p.place = ap (λ (ws : List ℕ). slice_index ws bucket) is ∙ get_or-set_other two 3 bucket (p.place + words_in p.node) 0 (omega arith) ∙ get_or-set_same one bucket p.place 0 (omega arith) in
    let at_next : slice_index new (p.place + 7) ≡ x = ap (λ (ws : List ℕ). slice_index ws (p.place + 7)) is ∙ get_or-set_other two 3 (p.place + 7) (p.place + words_in p.node) 0 (omega arith) ∙ get_or-set_other one bucket (p.place + 7) p.place 0 (omega arith) ∙ get_or-set_same old (p.place + 7) x 0 (omega arith) in
    record {
      table = length_new ∙ size;
      first_free = at_three;
      room = room;
      row = (behind, next.laid.row);
      rising = (next.newest, next.laid.rising);
      stands = λ q among. ⊎_elim
          (λ (e : q ≡ p). subst (Stands new) (sym e) (kept old new p (λ i more differs. other (p.place + i) (omega arith) (omega arith) (omega arith)) next.stands))
          (λ (m : Among q nodes). let at = within start nodes q next.laid.row m in kept old new q (λ i more differs. other (q.place + i) (omega arith) (omega arith) (omega arith)) (next.laid.stands q m))
          among;
      buckets = λ i more. ⊎_elim
          (λ (e : 16 + i ≡ bucket).
          let leads = leads_newest layout nodes p (p.place + words_in p.node) (omega arith) (λ q m. let at = within start nodes q next.laid.row m in omega arith) in
          subst (λ (b : ℕ). Leads layout (p ∷ nodes) b (p.place + words_in p.node) (slice_index new b)) (sym e) (subst (λ (to : ℕ). Leads layout (p ∷ nodes) bucket (p.place + words_in p.node) to) (sym at_bucket) leads))
          (λ (n : 16 + i ≢ bucket).
          let leads = leads_other layout nodes p (16 + i) (end_of start nodes) (p.place + words_in p.node) (slice_index old (16 + i)) (λ e. n (sym e)) (omega arith) (λ q m. let at = within start nodes q next.laid.row m in omega arith) (next.laid.buckets i more) in
          subst (λ (to : ℕ). Leads layout (p ∷ nodes) (16 + i) (p.place + words_in p.node) to) (sym (other (16 + i) (omega arith) n (omega arith))) leads)
          (cases_eq (16 + i) bucket);
      nexts = λ q among. ⊎_elim
          (λ (e : q ≡ p).
          let leads = leads_below layout nodes p bucket p.place x (omega arith) (subst (λ (below : ℕ). Leads layout nodes bucket below x) (sym behind) (next.laid.buckets hash slot)) in
          subst (λ (r : Placed). Leads layout (p ∷ nodes) (bucket_in layout r) r.place (slice_index new (r.place + 7))) (sym e) (subst (λ (to : ℕ). Leads layout (p ∷ nodes) bucket p.place to) (sym at_next) leads))
          (λ (m : Among q nodes).
          let at = within start nodes q next.laid.row m in
          let leads = leads_below layout nodes p (bucket_in layout q) q.place (slice_index old (q.place + 7)) (omega arith) (next.laid.nexts q m) in
          subst (λ (to : ℕ). Leads layout (p ∷ nodes) (bucket_in layout q) q.place to) (sym (other (q.place + 7) (omega arith) (omega arith) (omega arith))) leads)
          among;
    }

-- a node that is to be linked stands within the words
pub next_at : (words : List ℕ) (layout : Layout) (nodes : List Placed) (p : Placed) (at : ℕ) → IsLayout layout → IsNext words layout nodes p → p.place ≡ at → IsNodeAt words at p
next_at words layout nodes p at sizes next is =
    let few = sizes.buckets in
    let small = sizes.room in
    let room = next.room in
    let size = next.laid.table in
    record { place = is; stands = next.stands; inside = omega arith; size = omega arith }
