use Rattle.nsc_laws.proofs.LoneInsertions.{none_overtakes}
use Rattle.nsc_laws.proofs.machines.lone_insertions_are_not_overtaken.Goals as goal

pub returns : goal.returns
returns c = none_overtakes
