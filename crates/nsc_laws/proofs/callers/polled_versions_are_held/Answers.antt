use Rattle.nsc_laws.proofs.callers.polled_versions_are_held.Goals as goal
use Rattle.nsc_laws.proofs.CoreLaw.{polled_law, version_law}

pub returns-clause-asked : goal.returns-clause-asked
returns-clause-asked c = polled_law

pub returns-clause-version : goal.returns-clause-version
returns-clause-version c = version_law
