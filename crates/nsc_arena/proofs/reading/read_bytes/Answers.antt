use Rattle.std.proofs.Common.{◌≡◌, ℕ, ◌+◌, ◌-◌, ◌*◌, ◌<◌, ◌++◌, min, List, length, take, ap, ◌∙◌, arith, append_assoc}
use Rattle.std.proofs.lemmas.List.{length-append, length-take}
use Rattle.std.proofs.lemmas.List.FromFn.{length-map-range_with_len}
use Rattle.nsc_base.specs.Buf.{Buf}
use Rattle.nsc_arena.specs.ReadBack.{byte_in, bytes_in}
use Rattle.nsc_arena.proofs.Blocks.{block_more}
use Rattle.nsc_arena.proofs.ReadBack.{bytes_back}
use Rattle.nsc_arena.proofs.reading.read_bytes.Goals as goal

pub push-requires : goal.push-requires
push-requires g c =
    let i = c.loop-index.index in
    let words = g.W.Words.words c.args.table.now in
    let count : ℕ = c.min-count.result in
    let count_is : count ≡ min (c.args.len - 64 * i) 64 = c.min-count.ensures in
    let more : 64 * i < c.args.len = omega arith in
    let before = c.loop-index.invariant in
    let read : length (bytes_in words c.args.at (min (64 * i) c.args.len)) ≡ min (64 * i) c.args.len = length-map-range_with_len (byte_in words c.args.at) 0 (min (64 * i) c.args.len) in
    let size : length c.loop-index.out.content ≡ length c.args.out.now.content + min (64 * i) c.args.len = ap length before.3 ∙ length-append c.args.out.now.content (bytes_in words c.args.at (min (64 * i) c.args.len)) ∙ ap (λ (n : ℕ). length c.args.out.now.content + n) read in
    let part : length (take count c.block_at-block.result) ≡ min count (length c.block_at-block.result) = length-take count c.block_at-block.result in
    let limit : c.loop-index.out.limit ≡ c.args.out.now.limit = before.2 in
    omega (arith, count_is, more, size, part, limit, c.requires.room)

pub loop-index-preserved : goal.loop-index-preserved
loop-index-preserved g c =
    let i = c.loop-index.index in
    let words = g.W.Words.words c.args.table.now in
    let count : ℕ = c.min-count.result in
    let count_is : count ≡ min (c.args.len - 64 * i) 64 = c.min-count.ensures in
    let more : 64 * i < c.args.len = omega arith in
    let before = c.loop-index.invariant in
    let content : c.push.new.self.content ≡ c.loop-index.out.content ++ take count c.block_at-block.result = ap (λ (b : Buf). b.content) c.push.ensures in
    let limit : c.push.new.self.limit ≡ c.loop-index.out.limit = ap (λ (b : Buf). b.limit) c.push.ensures in
    let at_here : min (64 * i) c.args.len ≡ 8 * (8 * i) = omega arith in
    let at_next : 8 * (8 * i) + count ≡ min (64 * (i + 1)) c.args.len = omega (arith, count_is, more) in
    let next = block_more words c.args.at (8 * i) count c.block_at-block.result (omega (arith, count_is)) (λ k h. c.block_at-block.ensures.bytes k (omega (arith, count_is, h)) ∙ ap (λ (ws : List ℕ). byte_in ws (c.args.at + 8 * i) k) before.0) in (
      c.block_at-block.ensures.same ∙ before.0,
      c.block_at-block.ensures.rest ∙ before.1,
      limit ∙ before.2,
      content
          ∙ ap (λ (xs : List ℕ). xs ++ take count c.block_at-block.result) (before.3 ∙ ap (λ (n : ℕ). c.args.out.now.content ++ bytes_in words c.args.at n) at_here)
          ∙ append_assoc c.args.out.now.content (bytes_in words c.args.at (8 * (8 * i))) (take count c.block_at-block.result)
          ∙ ap (λ (xs : List ℕ). c.args.out.now.content ++ xs) (next ∙ ap (bytes_in words c.args.at) at_next),
    )

pub returns-clause-bytes : goal.returns-clause-bytes
returns-clause-bytes g c = λ bytes all same holds.
    let words = g.W.Words.words c.args.table.now in
    let all_read : min (64 * c.loop-index.index) c.args.len ≡ length bytes = omega (arith, same) in
    c.loop-index.invariant.3
    ∙ ap (λ (n : ℕ). c.args.out.now.content ++ bytes_in words c.args.at n) all_read
    ∙ ap (λ (xs : List ℕ). c.args.out.now.content ++ xs) (bytes_back words c.args.at bytes all holds)
