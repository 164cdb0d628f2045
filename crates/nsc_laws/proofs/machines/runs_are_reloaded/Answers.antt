use Rattle.nsc_laws.proofs.MachineLawSettled.{reloads_law}
use Rattle.nsc_laws.proofs.machines.runs_are_reloaded.Goals as goal

pub returns : goal.returns
returns c = reloads_law
