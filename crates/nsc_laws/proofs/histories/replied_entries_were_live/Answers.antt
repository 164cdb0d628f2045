use Rattle.nsc_laws.proofs.LiveFronts.{was_live, reply_was_live}
use Rattle.nsc_laws.proofs.histories.replied_entries_were_live.Goals as goal

pub returns-clause-inserted : goal.returns-clause-inserted
returns-clause-inserted c = was_live

pub returns-clause-replied : goal.returns-clause-replied
returns-clause-replied c = reply_was_live
