use Rattle.std.proofs.Common.{◌≡◌, ℕ, ◌+◌, List, slice_index, ap, ◌∙◌, arith}
use Rattle.byteorder.specs.Endian.{little_bytes}
use Rattle.nsc_arena.proofs.Blocks.{word_in_block}
use Rattle.nsc_arena.proofs.reading.block_at.Goals as goal

pub loop-index-preserved : goal.loop-index-preserved
loop-index-preserved g c =
    let i = c.loop-index.index in
    let before = c.loop-index.invariant in
    let word : c.get-word.result ≡ slice_index (g.W.Words.words c.args.table.now) (c.args.at + i) = c.get-word.ensures.value ∙ ap (λ (ws : List ℕ). slice_index ws (c.args.at + i)) before.0 in
    let bytes : c.copy_from_slice.new.self ≡ little_bytes 8 (slice_index (g.W.Words.words c.args.table.now) (c.args.at + i)) = c.copy_from_slice.ensures.after ∙ c.to_le_bytes.ensures ∙ ap (little_bytes 8) word in (
      c.get-word.ensures.same ∙ before.0,
      c.get-word.ensures.rest ∙ before.1,
      word_in_block (g.W.Words.words c.args.table.now) c.args.at i c.loop-index.block c.copy_from_slice.new.self (omega arith) bytes before.2,
    )
