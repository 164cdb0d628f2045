use Rattle.std.proofs.Common.{length}
use Rattle.nsc_writer.proofs.Ends.{EndsSome}
use Rattle.nsc_writer.proofs.writer.Writer.end_all.Given as goal

abbrev pub invariant-entries : goal.invariant-entries
invariant-entries l = EndsSome l.initial.self l.self l.from

abbrev pub decreases-entries : goal.decreases-entries
decreases-entries l = length l.self.cache.entries
