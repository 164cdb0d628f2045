use Rattle.std.proofs.Common.{◌≡◌, ◌+◌, slice_index}
use Rattle.nsc_arena.specs.Written.{IsWritten}
use Rattle.nsc_arena.proofs.copying.copy_words.Given as goal

abbrev pub invariant-loop-index : goal.invariant-loop-index
invariant-loop-index g l = IsWritten (g.W.Words.words l.initial.table) (g.W.Words.words l.table) l.to l.index (λ i. slice_index (g.V.Words.words l.initial.from) (l.at + i)) × (g.W.Words.rest l.table ≡ g.W.Words.rest l.initial.table) × (g.V.Words.words l.from ≡ g.V.Words.words l.initial.from) × (g.V.Words.rest l.from ≡ g.V.Words.rest l.initial.from)
