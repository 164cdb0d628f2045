use Rattle.nsc_image.proofs.Restores.{Restores}
use Rattle.nsc_image.proofs.restoring.restore.Given as goal

abbrev pub invariant-entries : goal.invariant-entries
invariant-entries g l = Restores l.settings l.now (g.A.Answerer.prepared_from l.ready) l.image l.initial.writer l.writer l.yielded l.saved-iterator l.kept
