-- The loads that tell whether a node is of the request: the first word of its key, its SHAPE, and the other words of its key.
use Rattle.std.proofs.Common.{All, ◌≡◌, ◌∙◌, Bool, ◌&&◌, eq-eqb, [], ℕ, ◌+◌, ◌<◌, ◌≤◌, ⊎_elim, List, length, slice_index, refl, sym, ap, subst, arith}
use Rattle.std.proofs.lemmas.Bool.{cases_lt}
use Rattle.std.specs.Str.{bytes_eq}
use Rattle.nsc_base.specs.Nodes.{words_for}
use Rattle.nsc_words.specs.declared.layout.Layout.{Layout}
use Rattle.nsc_words.specs.Layout.{table_words}
use Rattle.nsc_words.specs.Packing.{shape_word}
use Rattle.nsc_words.specs.Words.{word_of}
use Rattle.nsc_words.proofs.Lows.{same_words}
use Rattle.nsc_arena.proofs.Bytes.{all_below}
use Rattle.nsc_model.specs.Entry.{Entry, key_limit}
use Rattle.nsc_model.specs.Kinds.{type_number}
use Rattle.nsc_model.specs.declared.answer.Request.{Request}
use Rattle.nsc_model.specs.declared.kind.Kind.{Kind}
use Rattle.nsc_model.proofs.Beginnings.{prefix_all}
use Rattle.nsc_laws.proofs.Requests.{same_request}
use Rattle.nsc_rule.specs.Pass.{Pass}
use Rattle.nsc_reader.specs.Stages.{AtFirstWord, AtKeyWord, AtLast, AtNext, AtShape, AtState, HasWords, OnNode, Tells, asked, key_words}
use Rattle.nsc_model.specs.declared.in_place.InPlace.TheVariants.{NoEntry}
use Rattle.nsc_reader.proofs.Tellings.{Read, begun_at, fixed_at, node_at, passed_by, steady_before}

node_on : (layout : Layout) (place known : ℕ) (p : Pass) → p.searching.known ≤ known → OnNode layout place p → OnNode layout place (fixed_at known p)
node_on layout place known p later n = node_at layout place p.seen known p.searching.gone p (prefix_all p.seen) later n

-- ---- the first word of the key

pub first_same : (layout : Layout) (place known word : ℕ) (p : Pass) → p.searching.known ≤ known → AtFirstWord layout place p → Read p known 8 word → word ≡ word_of p.searching.request.key 0 → AtShape layout place 1 (fixed_at known p)
first_same layout place known word p later at read is =
    let some = at.some in
    record {
      node = node_on layout place known p later at.node;
      few = omega arith;
      same = λ steady e on i low inside.
          let zero : 0 ≡ i = omega arith in
          subst (λ (n : ℕ). n < words_for (length e.request.key) → word_of e.request.key n ≡ word_of p.searching.request.key n) zero (λ h. sym ((read steady e on).key 0 h refl) ∙ is) inside;
    }

pub first_other : (layout : Layout) (place known word : ℕ) (p : Pass) → p.searching.known ≤ known → AtFirstWord layout place p → Read p known 8 word → (word ≡ word_of p.searching.request.key 0 → ⊥) → AtNext layout place (fixed_at known p)
first_other layout place known word p later at read other =
    passed_by layout place known p later at.node (λ steady e on same.
    let some = at.some in
    let key : length e.request.key ≡ length p.searching.request.key = ap (λ (r : Request). length r.key) same in
    let inside : 0 < words_for (length e.request.key) = omega arith in
    other ((read steady e on).key 0 inside refl ∙ ap (λ (r : Request). word_of r.key 0) same))

-- ---- SHAPE

two_same : (a b k l : ℕ) → k ≤ key_limit → l ≤ key_limit → shape_word a k ≡ shape_word b l → (a ≡ b) × (k ≡ l)
two_same a b k l low high is = (omega arith, omega arith)

same_kind : (a b : Kind) → type_number a ≡ type_number b → a ≡ b
same_kind a b e = ap (λ (r : Request). r.kind) (same_request (asked a []) (asked b []) (ap (λ (t : Bool). t && bytes_eq [] []) (eq-eqb (type_number a) (type_number b) e)))

abbrev IsShaped : Pass → Entry → Type 0
IsShaped p e = (e.request.kind ≡ p.searching.request.kind) × (length e.request.key ≡ length p.searching.request.key)

shaped : (layout : Layout) (place known word : ℕ) (p : Pass) → p.searching.known ≤ known → OnNode layout place p → Read p known 1 word → length p.searching.request.key ≤ key_limit → word ≡ shape_word (type_number p.searching.request.kind) (length p.searching.request.key) → Tells (fixed_at known p) (IsShaped p)
shaped layout place known word p later node read short is steady e on =
    let within = node.within (steady_before p.seen known p.searching.gone p later node.begun steady) e on in
    let both = two_same (type_number e.request.kind) (type_number p.searching.request.kind) (length e.request.key) (length p.searching.request.key) within.key short (sym ((read steady e on).shape refl) ∙ is) in
    (same_kind e.request.kind p.searching.request.kind both.0, both.1)

pub shape_other : (layout : Layout) (place compared known word : ℕ) (p : Pass) → p.searching.known ≤ known → AtShape layout place compared p → Read p known 1 word → (word ≡ shape_word (type_number p.searching.request.kind) (length p.searching.request.key) → ⊥) → AtNext layout place (fixed_at known p)
shape_other layout place compared known word p later at read other =
    passed_by layout place known p later at.node (λ steady e on same.
    other ((read steady e on).shape refl ∙ ap (λ (r : Request). shape_word (type_number r.kind) (length r.key)) same))

pub shape_same : (layout : Layout) (place compared known word : ℕ) (p : Pass) → p.searching.known ≤ known → AtShape layout place compared p → Read p known 1 word → length p.searching.request.key ≤ key_limit → word ≡ shape_word (type_number p.searching.request.kind) (length p.searching.request.key)
    → place + 8 + key_words p ≤ table_words layout → compared < key_words p → AtKeyWord layout place compared (fixed_at known p)
shape_same layout place compared known word p later at read short is room few =
    let tells = shaped layout place known word p later at.node read short is in
    record {
      node = node_on layout place known p later at.node;
      few = few;
      room = room;
      kind = λ steady e on. (tells steady e on).0;
      size = λ steady e on. (tells steady e on).1;
      same = λ steady e on. at.same (steady_before p.seen known p.searching.gone p later at.node.begun steady) e on;
    }

-- the words of a node of this shape stand within the words
pub shape_wrong : (layout : Layout) (place compared known word : ℕ) (content : List ℕ) (p : Pass) → p.searching.known ≤ known → AtShape layout place compared p → Read p known 1 word → length p.searching.request.key ≤ key_limit → word ≡ shape_word (type_number p.searching.request.kind) (length p.searching.request.key)
    → (place + 8 + key_words p ≤ table_words layout → ⊥) → AtLast content NoEntry (fixed_at known p)
shape_wrong layout place compared known word content p later at read short is wrong = record {
  begun = begun_at p.seen known p.searching.gone p (prefix_all p.seen) later at.node.begun;
  may = λ steady.
      let e = at.node.on.0 in
      let within = at.node.within (steady_before p.seen known p.searching.gone p later at.node.begun steady) e at.node.on.1 in
      let size : length e.request.key ≡ length p.searching.request.key = (shaped layout place known word p later at.node read short is steady e at.node.on.1).1 in
      let high = within.high in
      absurd (wrong (omega arith));
}

-- ---- all words of the key

made_same : (a b : Request) → a.kind ≡ b.kind → a.key ≡ b.key → a ≡ b
made_same a b e f = ap (λ (k : Kind). asked k a.key) e ∙ ap (asked b.kind) f

key_same : (p : Pass) (e : Entry) (compared : ℕ) → All (λ b. b < 256) e.request.key → ((i : ℕ) → slice_index p.searching.request.key i < 256) → IsShaped p e → HasWords p compared e → key_words p ≤ compared → e.request ≡ p.searching.request
key_same p e compared all below shape same enough =
    let size = shape.1 in
    made_same e.request p.searching.request shape.0 (same_words e.request.key p.searching.request.key (all_below e.request.key all) below size (λ i h. same i (omega arith) h))

pub shape_done : (layout : Layout) (place compared known word : ℕ) (p : Pass) → p.searching.known ≤ known → AtShape layout place compared p → Read p known 1 word → length p.searching.request.key ≤ key_limit → word ≡ shape_word (type_number p.searching.request.kind) (length p.searching.request.key)
    → place + 8 + key_words p ≤ table_words layout → key_words p ≤ compared → ((i : ℕ) → slice_index p.searching.request.key i < 256) → AtState layout place (fixed_at known p)
shape_done layout place compared known word p later at read short is room enough below = record {
  node = node_on layout place known p later at.node;
  room = room;
  answers = λ steady e on.
      let before = steady_before p.seen known p.searching.gone p later at.node.begun steady in
      key_same p e compared (at.node.within before e on).key_bytes below (shaped layout place known word p later at.node read short is steady e on) (at.same before e on) enough;
}

-- ---- the next word of the key

more_words : (p : Pass) (e : Entry) (compared word : ℕ) → HasWords p compared e → (compared < words_for (length e.request.key) → word ≡ word_of e.request.key compared) → word ≡ word_of p.searching.request.key compared → HasWords p (compared + 1) e
more_words p e compared word same holds is i low inside =
    ⊎_elim
    (λ (h : i < compared). same i h inside)
    (λ (h : compared ≤ i).
    let at : compared ≡ i = omega arith in
    subst (λ (n : ℕ). n < words_for (length e.request.key) → word_of e.request.key n ≡ word_of p.searching.request.key n) at (λ l. sym (holds l) ∙ is) inside)
    (cases_lt i compared)

pub word_other : (layout : Layout) (place compared known word : ℕ) (p : Pass) → p.searching.known ≤ known → AtKeyWord layout place compared p → Read p known (8 + compared) word → (word ≡ word_of p.searching.request.key compared → ⊥) → AtNext layout place (fixed_at known p)
word_other layout place compared known word p later at read other =
    passed_by layout place known p later at.node (λ steady e on same.
    let few = at.few in
    let key : length e.request.key ≡ length p.searching.request.key = ap (λ (r : Request). length r.key) same in
    let inside : compared < words_for (length e.request.key) = omega arith in
    other ((read steady e on).key compared inside refl ∙ ap (λ (r : Request). word_of r.key compared) same))

pub word_same : (layout : Layout) (place compared known word : ℕ) (p : Pass) → p.searching.known ≤ known → AtKeyWord layout place compared p → Read p known (8 + compared) word → word ≡ word_of p.searching.request.key compared → compared + 1 < key_words p → AtKeyWord layout place (compared + 1) (fixed_at known p)
word_same layout place compared known word p later at read is few = record {
  node = node_on layout place known p later at.node;
  few = few;
  room = at.room;
  kind = λ steady e on. at.kind (steady_before p.seen known p.searching.gone p later at.node.begun steady) e on;
  size = λ steady e on. at.size (steady_before p.seen known p.searching.gone p later at.node.begun steady) e on;
  same = λ steady e on. more_words p e compared word (at.same (steady_before p.seen known p.searching.gone p later at.node.begun steady) e on) (λ h. (read steady e on).key compared h refl) is;
}

pub word_done : (layout : Layout) (place compared known word : ℕ) (p : Pass) → p.searching.known ≤ known → AtKeyWord layout place compared p → Read p known (8 + compared) word → word ≡ word_of p.searching.request.key compared → key_words p ≤ compared + 1 → ((i : ℕ) → slice_index p.searching.request.key i < 256) → AtState layout place (fixed_at known p)
word_done layout place compared known word p later at read is enough below = record {
  node = node_on layout place known p later at.node;
  room = at.room;
  answers = λ steady e on.
      let before = steady_before p.seen known p.searching.gone p later at.node.begun steady in
      key_same p e (compared + 1) (at.node.within before e on).key_bytes below (at.kind before e on, at.size before e on) (more_words p e compared word (at.same before e on) (λ h. (read steady e on).key compared h refl) is) enough;
}
