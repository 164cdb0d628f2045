use Rattle.nsc_laws.proofs.Takers.{ends_at, lists_end_at, sub_lists_end_at}
use Rattle.nsc_laws.proofs.switches.switches_end_at_their_takers.Goals as goal

pub returns-clause-any : goal.returns-clause-any
returns-clause-any c = ends_at

pub returns-clause-of_content : goal.returns-clause-of_content
returns-clause-of_content c = lists_end_at

pub returns-clause-of_compat : goal.returns-clause-of_compat
returns-clause-of_compat c = sub_lists_end_at
