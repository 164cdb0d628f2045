use Rattle.std.proofs.Common.{◌≡◌, ◌+◌, ◌-◌, length}
use Rattle.nsc_outside.specs.Stream.{Moves}
use Rattle.nsc_model.specs.Answer.{reply_limit}
use Rattle.nsc_client.proofs.exchange.read_all.Given as goal

abbrev pub invariant-parts : goal.invariant-parts
invariant-parts g l = record {
  moved : Moves (g.R.Source.left l.initial.conn_in) (g.R.Source.left l.conn_in) l.bytes.items;
  calm : g.R.Source.faults l.conn_in ≡ g.R.Source.faults l.initial.conn_in;
}

abbrev pub decreases-parts : goal.decreases-parts
decreases-parts g l = reply_limit + 1 - length l.bytes.items
