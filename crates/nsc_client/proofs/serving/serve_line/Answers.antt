use Rattle.std.proofs.Common.{[], ◌∷◌, rules}
use Rattle.nsc_outside.specs.StreamAt.{stream_out}
use Rattle.nsc_client.specs.Gathered.{IsUnserved}
use Rattle.nsc_client.proofs.Answering.{sees_on}
use Rattle.nsc_client.proofs.Gathering.{flush_broken, gathers_none, gathers_on, if_err, on_ok, unserved_on}
use Rattle.nsc_client.proofs.serving.serve_line.Goals as goal

pub returns-in_err-flush-clause-unserved : goal.returns-in_err-flush-clause-unserved
returns-in_err-flush-clause-unserved g c =
    let unserved = flush_broken g.S.Store c.args.stores.now c.args.passes.now c.hit_text.new.passes (stream_out g.K.Sink c.args.conn_out.now) (stream_out g.K.Sink c.flush.new.conn_out) c.args.pending.now c.args.line.now
    c.in_err-flush.field-0.0 c.hit_text.ensures.searched c.in_err-flush.ensures.broken in
    search (rules, unserved, c.from_residual.ensures)

pub returns-clause-seen : goal.returns-clause-seen
returns-clause-seen g c = sees_on g.S.Store c.args.passes.now c.hit_text.new.passes c.serve_lookup.new.passes c.hit_text.ensures.seen c.serve_lookup.ensures.seen

pub returns-clause-served : goal.returns-clause-served
returns-clause-served g c =
    let before = stream_out g.K.Sink c.args.conn_out.now in
    let mid = stream_out g.K.Sink c.flush.new.conn_out in
    let after = stream_out g.K.Sink c.serve_lookup.new.conn_out in
    let none = gathers_none g.S.Store c.args.passes.now c.hit_text.new.passes before mid c.args.pending.now [] c.hit_text.ensures.searched c.in_ok-flush.ensures.written in
    on_ok c.serve_lookup.result
    (gathers_on g.S.Store c.args.passes.now c.hit_text.new.passes c.serve_lookup.new.passes before mid after c.args.pending.now [] c.serve_lookup.new.pending [] (c.args.line.now ∷ []) c.hit_text.ensures.seen c.serve_lookup.ensures.seen none)
    c.serve_lookup.ensures.served

pub returns-clause-unserved : goal.returns-clause-unserved
returns-clause-unserved g c =
    let before = stream_out g.K.Sink c.args.conn_out.now in
    let mid = stream_out g.K.Sink c.flush.new.conn_out in
    let after = stream_out g.K.Sink c.serve_lookup.new.conn_out in
    if_err (IsUnserved g.S.Store c.args.stores.now c.hit_text.new.passes c.serve_lookup.new.passes mid after [] c.args.line.now)
    (IsUnserved g.S.Store c.args.stores.now c.args.passes.now c.serve_lookup.new.passes before after c.args.pending.now c.args.line.now) c.serve_lookup.result
    (λ by. unserved_on g.S.Store c.args.stores.now c.args.passes.now c.hit_text.new.passes c.serve_lookup.new.passes before mid after c.args.pending.now c.args.line.now by c.hit_text.ensures.seen c.serve_lookup.ensures.seen
    c.hit_text.ensures.searched c.in_ok-flush.ensures.written)
    c.serve_lookup.ensures.unserved
