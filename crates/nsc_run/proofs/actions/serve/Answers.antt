use Rattle.std.proofs.Common.{subst}
use Rattle.nsc_run.specs.Commands.{NotSet}
use Rattle.nsc_run.proofs.actions.serve.Goals as goal

pub returns-in-Err-clause-bound : goal.returns-in-Err-clause-bound
returns-in-Err-clause-bound g c ok = absurd (subst (NotSet _ _ _) ok c.in-Err.ensures.err)
