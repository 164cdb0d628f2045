use Rattle.std.proofs.lemmas.Result.{IfErr-weaker}
use Rattle.nsc_connection_trials.proofs.Causes.{untold}
use Rattle.nsc_connection_trials.proofs.growing.GrowingFileSet.read_conf.Goals as goal

pub returns-clause-cause : goal.returns-clause-cause
returns-clause-cause g = IfErr-weaker g.read_conf.result _ _ (untold _) g.read_conf.ensures.cause
