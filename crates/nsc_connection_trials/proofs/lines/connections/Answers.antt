use Rattle.nsc_model.specs.declared.kind.Db.TheVariants as db
use Rattle.nsc_connection_trials.proofs.lines.connections.Goals as goal

pub finds_root-requires-clause-pass : goal.finds_root-requires-clause-pass
finds_root-requires-clause-pass g c = c.refuses_long.ensures.passes db.Passwd

pub finds_root-requires-clause-users : goal.finds_root-requires-clause-users
finds_root-requires-clause-users g c = c.requires.named db.Passwd

pub looks_up-requires-clause-users : goal.looks_up-requires-clause-users
looks_up-requires-clause-users g c = c.requires.named db.Passwd
