use Rattle.std.proofs.Common.{length}
use Rattle.nsc_writer.proofs.Rest.{rest_from}
use Rattle.nsc_image.proofs.Saves.{Saves}
use Rattle.nsc_image.proofs.saving.save.Given as goal

abbrev pub invariant-entries : goal.invariant-entries
invariant-entries l = Saves l.fn.db l.initial.writer l.writer l.from l.key l.reply l.builder

abbrev pub decreases-entries : goal.decreases-entries
decreases-entries l = length (rest_from l.from l.writer.cache.entries)
