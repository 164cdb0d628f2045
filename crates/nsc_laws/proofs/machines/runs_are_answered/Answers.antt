use Rattle.nsc_laws.proofs.MachineLawRuns.{runs_law}
use Rattle.nsc_laws.proofs.machines.runs_are_answered.Goals as goal

pub returns : goal.returns
returns c = runs_law
