use Rattle.std.proofs.Common.{◌≡◌, ℕ, ◌*◌, ◌<◌, slice_index}
use Rattle.nsc_arena.specs.ReadBack.{byte_in}
use Rattle.nsc_arena.proofs.reading.block_at.Given as goal

abbrev pub invariant-loop-index : goal.invariant-loop-index
invariant-loop-index g l = (g.W.Words.words l.table ≡ g.W.Words.words l.initial.table) × (g.W.Words.rest l.table ≡ g.W.Words.rest l.initial.table) × ((k : ℕ) → k < 8 * l.index → slice_index l.block k ≡ byte_in (g.W.Words.words l.initial.table) l.at k)
