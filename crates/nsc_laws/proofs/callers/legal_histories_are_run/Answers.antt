use Rattle.nsc_laws.proofs.RunRecords.{legal_run}
use Rattle.nsc_laws.proofs.callers.legal_histories_are_run.Goals as goal

pub returns : goal.returns
returns c = legal_run
