use Rattle.nsc_laws.proofs.callers.core_runs_are_legal.Goals as goal
use Rattle.nsc_laws.proofs.CoreLaw.{legal_law, answered_law}
use Rattle.nsc_laws.proofs.CoreLawOrigins.{sourced_law}

pub returns-clause-legal : goal.returns-clause-legal
returns-clause-legal c = legal_law

pub returns-clause-answered : goal.returns-clause-answered
returns-clause-answered c = answered_law

pub returns-clause-sourced : goal.returns-clause-sourced
returns-clause-sourced c = sourced_law
