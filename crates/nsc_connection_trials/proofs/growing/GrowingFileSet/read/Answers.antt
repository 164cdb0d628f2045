use Rattle.std.proofs.lemmas.Result.{IfErr-weaker}
use Rattle.nsc_connection_trials.proofs.Causes.{untold}
use Rattle.nsc_connection_trials.proofs.growing.GrowingFileSet.read.Goals as goal

pub returns-clause-cause : goal.returns-clause-cause
returns-clause-cause g = IfErr-weaker g.read.result _ _ (untold _) g.read.ensures.cause
