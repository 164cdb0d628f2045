use Rattle.std.proofs.Common.{◌≡◌, slice_index}
use Rattle.nsc_arena.specs.Written.{IsWritten}
use Rattle.nsc_arena.proofs.writing.put_words.Given as goal

abbrev pub invariant-loop-index : goal.invariant-loop-index
invariant-loop-index g l = IsWritten (g.W.Words.words l.initial.table) (g.W.Words.words l.table) l.at l.index (slice_index l.words) × (g.W.Words.rest l.table ≡ g.W.Words.rest l.initial.table)
