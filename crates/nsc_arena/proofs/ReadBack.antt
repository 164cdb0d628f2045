-- Words that hold nodes hold no others.
use Rattle.std.proofs.Common.{◌≡◌, ◌≢◌, ℕ, zero, suc, ◌+◌, ◌*◌, ◌/◌, ◌%◌, ◌<◌, ◌≤◌, ⊎_elim, Bool, true, false, cond, eqb, eq-eqb, List, [], ◌∷◌, length, take, slice_index, refl, sym, ap, ◌∙◌, arith}
use Rattle.std.specs.List.{All}
use Rattle.std.specs.Int.{bytes_low_first}
use Rattle.std.proofs.lemmas.Bool.{cases_lt, ne_eqb, lt-ltb, le-ltb}
use Rattle.std.proofs.lemmas.List.{get_or-take}
use Rattle.std.proofs.lemmas.List.FromFn.{fill_by_all}
use Rattle.nsc_base.specs.Nodes.{words_for}
use Rattle.nsc_words.specs.declared.layout.Layout.{Layout}
use Rattle.nsc_words.specs.declared.node.Node.{Node}
use Rattle.nsc_words.specs.declared.node.Placed.{Placed}
use Rattle.nsc_words.specs.Laid.{Laid, Stands, end_of, words_in}
use Rattle.nsc_words.specs.Layout.{arena_start}
use Rattle.nsc_words.specs.Words.{HoldsBytes, word_of}
use Rattle.nsc_words.proofs.Lows.{byte_of, take_low}
use Rattle.nsc_arena.specs.ReadBack.{byte_in, bytes_in, node_by, placed_in, nodes_from, nodes_in}
use Rattle.nsc_arena.proofs.Bytes.{all_below}
use Rattle.nsc_arena.proofs.Passed.{Passed, following, passed_all, passed_none}

byte_back : (words : List ℕ) (place : ℕ) (bytes : List ℕ) (k : ℕ) → All (λ b. b < 256) bytes → HoldsBytes words place bytes → k < length bytes → slice_index bytes k ≡ byte_in words place k
unfolding byte_in
byte_back words place bytes k all holds h =
    let w = word_of bytes (k / 8) in
    let first = byte_of bytes k (all_below bytes all) h in
    let few = take_low (k % 8 + 1) 8 0 w (omega arith) in
    let at : slice_index (take (k % 8 + 1) (bytes_low_first 0 8 w)) (k % 8) ≡ slice_index (bytes_low_first 0 8 w) (k % 8) = get_or-take (k % 8 + 1) (bytes_low_first 0 8 w) (k % 8) 0 (omega arith) in
    let word : slice_index words (place + k / 8) ≡ w = holds (k / 8) (omega arith) in
    first ∙ sym (ap (λ (bs : List ℕ). slice_index bs (k % 8)) few) ∙ at ∙ sym (ap (λ (v : ℕ). slice_index (bytes_low_first 0 8 v) (k % 8)) word)

pub bytes_back : (words : List ℕ) (place : ℕ) (bytes : List ℕ) → All (λ b. b < 256) bytes → HoldsBytes words place bytes → bytes_in words place (length bytes) ≡ bytes
bytes_back words place bytes all holds = sym (fill_by_all (byte_in words place) bytes (length bytes) 0 refl (λ k h. byte_back words place bytes k all holds h))

mark_back : (b : Bool) (n word : ℕ) → word ≡ n * 2 + cond b 1 0 → (eqb (word % 2) 1 ≡ b) × (word / 2 ≡ n)
mark_back true n word is = let r : word % 2 ≡ 1 = omega arith in (eq-eqb (word % 2) 1 r, omega arith)
mark_back false n word is = let r : word % 2 ≡ 0 = omega arith in let n1 : word % 2 ≢ 1 = omega arith in (ne_eqb (word % 2) 1 n1, omega arith)

state_back : (b : Bool) (word : ℕ) → word ≡ cond b 1 0 → eqb word 1 ≡ b
state_back true word is = eq-eqb word 1 is
state_back false word is = let n1 : word ≢ 1 = omega arith in ne_eqb word 1 n1

-- a node is read back
pub node_back : (words : List ℕ) (p : Placed) → Stands words p → placed_in words p.place ≡ p
node_back words p stands =
    let h = stands.holds in
    let n : Node = p.node in
    let low = stands.node.key in
    let key_len : slice_index words (p.place + 1) % 65536 ≡ length n.key = (let e = h.shape in omega arith) in
    let kind : slice_index words (p.place + 1) / 65536 ≡ n.kind = (let e = h.shape in omega arith) in
    let mark = mark_back n.not_found (length n.reply) (slice_index words (p.place + 2)) h.size in
    let usable = state_back p.usable (slice_index words (p.place + 6)) h.state in
    let key : bytes_in words (p.place + 8) (length n.key) ≡ n.key = bytes_back words (p.place + 8) n.key stands.node.key_bytes h.key in
    let reply : bytes_in words (p.place + 8 + words_for (length n.key)) (length n.reply) ≡ n.reply = bytes_back words (p.place + 8 + words_for (length n.key)) n.reply stands.node.reply_bytes h.reply in
    let same : node_by words p.place (length n.key) (length n.reply) ≡ n = λ i. record { number = h.number i; kind = kind i; key = key i; reply = reply i; version = h.version i; timeout = h.timeout i; reloads = h.reloads i; not_found = mark.0 i } in
    let by : node_by words p.place (slice_index words (p.place + 1) % 65536) (slice_index words (p.place + 2) / 2) ≡ n = (λ i. node_by words p.place (key_len i) (mark.1 i)) ∙ same in
    λ i. record { place = p.place; node = by i; usable = usable i }

-- from a place on the nodes that were not passed yet are read
rest_back : (count : ℕ) (words : List ℕ) (layout : Layout) (nodes done : List Placed) (at : ℕ) → Laid words layout nodes → Passed layout nodes done at → end_of (arena_start layout) nodes ≤ at + count → nodes_from count words at (slice_index words 3) done ≡ nodes
rest_back zero words layout nodes done at laid passed most = passed_all words layout nodes done at laid passed (omega arith)
rest_back (suc count) words layout nodes done at laid passed most =
    let end : ℕ = slice_index words 3 in
    let q : Placed = placed_in words at in
    let or_done : Bool → List Placed = λ b. cond b (nodes_from count words (at + words_in q.node) end (q ∷ done)) done in
    ⊎_elim
    (λ (more : at < end).
    let n = following layout nodes done at laid.row passed (omega (arith, more, laid.first_free)) in
    let is : q ≡ n.node = ap (placed_in words) (sym n.place) ∙ node_back words n.node (laid.stands n.node n.among) in
    ap or_done (lt-ltb at end more)
    ∙ ap (λ (r : Placed). nodes_from count words (at + words_in r.node) end (r ∷ done)) is
    ∙ rest_back count words layout nodes (n.node ∷ done) (at + words_in n.node.node) laid n.passed (omega arith))
    (λ (over : end ≤ at). ap or_done (le-ltb at end over) ∙ passed_all words layout nodes done at laid passed (omega (arith, over, laid.first_free)))
    (cases_lt at end)

pub read_back : (words : List ℕ) (layout : Layout) (nodes : List Placed) → Laid words layout nodes → nodes_in words layout ≡ nodes
unfolding nodes_in
read_back words layout nodes laid =
    let room = laid.room in
    let table = laid.table in
    rest_back (length words) words layout nodes [] (arena_start layout) laid (passed_none layout nodes (arena_start layout) refl) (omega arith)
