use Rattle.std.proofs.Common.{rules}
use Rattle.nsc_outside.specs.StreamAt.{stream_out}
use Rattle.nsc_client.proofs.Gathering.{flush_stopped, none_searched}
use Rattle.nsc_client.proofs.gate.serve_short.Goals as goal

pub returns-in_err-flush-clause-stopped : goal.returns-in_err-flush-clause-stopped
returns-in_err-flush-clause-stopped g c =
    let stopped = flush_stopped g.S.Store c.args.stores.now c.args.passes.now c.args.passes.now (stream_out g.K.Sink c.args.conn_out.now) (stream_out g.K.Sink c.flush.new.conn_out) c.args.pending.now c.args.line.now
    c.in_err-flush.field-0.0 (none_searched g.S.Store c.args.passes.now) c.in_err-flush.ensures.broken in
    search (rules, stopped, c.from_residual.ensures)
