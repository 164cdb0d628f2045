use Rattle.std.proofs.Common.{◌≡◌, ℕ, ◌+◌, ◌<◌, slice_index}
use Rattle.nsc_words.specs.Words.{word_of}
use Rattle.nsc_arena.proofs.reading.has_bytes.Given as goal

abbrev pub invariant-loop-index : goal.invariant-loop-index
invariant-loop-index g l = (g.W.Words.words l.table ≡ g.W.Words.words l.initial.table) × (g.W.Words.rest l.table ≡ g.W.Words.rest l.initial.table) × ((i : ℕ) → i < l.index → slice_index (g.W.Words.words l.initial.table) (l.at + i) ≡ word_of l.bytes i)
