use Rattle.std.proofs.lemmas.Result.{err_from_is_err_and}
use Rattle.nsc_wire.specs.Replies.{sizes_at}
use Rattle.nsc_wire.proofs.ReplyLoops.{sizes_go_on, sizes_end, sizes_done}
use Rattle.nsc_wire.proofs.reading.after_sizes.Goals as goal

pub returns-in_err-after : goal.returns-in_err-after
returns-in_err-after c =
    let p = err_from_is_err_and c.from_residual.result c.from_residual.ensures.1 in
    rw (p.1, p.2) (sizes_end c.in_err-after.field-0.0 c.args.count c.loop.counter c.loop.rest.now (sizes_at c.args.count c.args.bytes.now) c.loop-test.true c.in_err-after.ensures c.loop.invariant)

pub loop-preserved : goal.loop-preserved
loop-preserved c = sizes_go_on c.args.count c.loop.counter c.loop.rest.now _ c.in_ok-after.after.now (sizes_at c.args.count c.args.bytes.now) c.loop-test.true c.in_ok-after.ensures c.loop.invariant

pub returns : goal.returns
returns c = sizes_done c.args.count c.loop.counter c.loop.rest.now (sizes_at c.args.count c.args.bytes.now) c.loop-test.false c.loop.invariant
