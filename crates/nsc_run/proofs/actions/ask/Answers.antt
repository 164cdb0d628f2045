use Rattle.std.proofs.Common.{inl}
use Rattle.nsc_run.proofs.actions.ask.Goals as goal

pub returns-in-Ok-connect-clause-asks : goal.returns-in-Ok-connect-clause-asks
returns-in-Ok-connect-clause-asks g c = inl (
  record {
    conn_in = c.in-Ok-connect.input;
    conn_in' = c.command.new.conn_in;
    conn_out = c.in-Ok-connect.to_daemon;
    conn_out' = c.command.new.conn_out;
    reached = c.in-Ok-connect.ensures.peer;
    commands = c.command.ensures.commands;
  },
  c.in-Ok-connect.ensures.calm,
)
