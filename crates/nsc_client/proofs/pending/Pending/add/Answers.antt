use Rattle.std.proofs.Common.{[], rules}
use Rattle.nsc_outside.specs.StreamAt.{stream_out}
use Rattle.nsc_client.specs.Gathered.{IsBroken}
use Rattle.nsc_client.proofs.Gathering.{broken_before, broken_on, if_err, on_ok, writes_on}
use Rattle.nsc_client.proofs.pending.Pending.add.Goals as goal

pub returns-in_err-flush-clause-broken : goal.returns-in_err-flush-clause-broken
returns-in_err-flush-clause-broken g c =
    let broken = broken_before (stream_out g.K.Sink c.args.conn_out.now) (stream_out g.K.Sink c.flush.new.conn_out) c.args.self.now [] c.args.text.now c.in_err-flush.field-0.0 c.in_err-flush.ensures.broken in
    search (rules, broken, c.from_residual.ensures)

pub returns-clause-added : goal.returns-clause-added
returns-clause-added g c =
    on_ok c.add_first.result
    (writes_on (stream_out g.K.Sink c.args.conn_out.now) (stream_out g.K.Sink c.flush.new.conn_out) (stream_out g.K.Sink c.add_first.new.conn_out) c.args.self.now [] c.add_first.new.self [] c.args.text.now c.in_ok-flush.ensures.written)
    c.add_first.ensures.added

pub returns-clause-broken : goal.returns-clause-broken
returns-clause-broken g c =
    let before = stream_out g.K.Sink c.args.conn_out.now in
    let mid = stream_out g.K.Sink c.flush.new.conn_out in
    let after = stream_out g.K.Sink c.add_first.new.conn_out in
    if_err (IsBroken mid after [] c.args.text.now) (IsBroken before after c.args.self.now c.args.text.now) c.add_first.result
    (λ by. broken_on before mid after c.args.self.now [] [] c.args.text.now by c.in_ok-flush.ensures.written) c.add_first.ensures.broken
