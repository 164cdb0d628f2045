use Rattle.std.proofs.Common.{◌≡◌, ◌*◌, ◌++◌, min}
use Rattle.nsc_arena.specs.ReadBack.{bytes_in}
use Rattle.nsc_arena.proofs.reading.read_bytes.Given as goal

abbrev pub invariant-loop-index : goal.invariant-loop-index
invariant-loop-index g l = (g.W.Words.words l.table ≡ g.W.Words.words l.initial.table) × (g.W.Words.rest l.table ≡ g.W.Words.rest l.initial.table) × (l.out.limit ≡ l.initial.out.limit) × (l.out.content ≡ l.initial.out.content ++ bytes_in (g.W.Words.words l.initial.table) l.at (min (64 * l.index) l.len))
