use Rattle.nsc_laws.proofs.Prefixes.{prefix_legal}
use Rattle.nsc_laws.proofs.histories.prefixes_are_legal.Goals as goal

pub returns : goal.returns
returns c = prefix_legal
