use Rattle.std.proofs.Common.{◌≡◌, ℕ, ◌+◌, ◌-◌, ◌*◌, min, List, length, take, slice_index, ap, ◌∙◌, arith}
use Rattle.nsc_words.specs.Hash.{hash_from, hash_step}
use Rattle.nsc_words.specs.Words.{word_of}
use Rattle.std.proofs.lemmas.List.{take_all}
use Rattle.nsc_arena.proofs.Bytes.{hash_more}
use Rattle.nsc_arena.proofs.Heads.{holds_at, length_at}
use Rattle.nsc_arena.proofs.reading.hash_at.Goals as goal

pub loop-index-preserved : goal.loop-index-preserved
loop-index-preserved g c =
    let i = c.loop-index.index in
    let before = c.loop-index.invariant in (
      c.get-word.ensures.same ∙ before.0,
      c.get-word.ensures.rest ∙ before.1,
      λ p at.
          let len : c.shape_len-len.result ≡ length p.node.key = length_at c.args.at p (g.W.Words.words c.args.table.now) at c.shape_len-len.result c.get-shape.result c.shape_len-len.ensures.undoes c.get-shape.ensures.value in
          let here : c.get-word.result ≡ word_of p.node.key i = c.get-word.ensures.value ∙ ap (λ (ws : List ℕ). slice_index ws (c.args.at + 8 + i)) before.0 ∙ (holds_at (g.W.Words.words c.args.table.now) c.args.at p at).key i (omega arith) in
          c.hash_word-hash.ensures ∙ hash_more c.loop-index.hash (hash_step 5381 p.node.kind) i c.min.result c.get-word.result p.node.key at.stands.node.key_bytes (omega arith) (c.min.ensures ∙ ap (λ (n : ℕ). min (n - 8 * i) 8) len) here (before.2 p at),
    )

pub returns-clause-hash : goal.returns-clause-hash
returns-clause-hash g c = λ p at.
    let len : c.shape_len-len.result ≡ length p.node.key = length_at c.args.at p (g.W.Words.words c.args.table.now) at c.shape_len-len.result c.get-shape.result c.shape_len-len.ensures.undoes c.get-shape.ensures.value in
    let all : take (8 * c.loop-index.index) p.node.key ≡ p.node.key = take_all (8 * c.loop-index.index) p.node.key (omega arith) in
    c.loop-index.invariant.2 p at ∙ ap (hash_from (hash_step 5381 p.node.kind)) all
