use Rattle.nsc_laws.proofs.callers.core_can_be_emptied.Goals as goal
use Rattle.nsc_laws.proofs.CoreLawLive.{emptied_law}

pub returns : goal.returns
returns c = emptied_law
