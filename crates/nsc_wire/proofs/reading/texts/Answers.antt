use Rattle.std.proofs.lemmas.Result.{err_from_is_err_and}
use Rattle.nsc_wire.specs.Replies.{texts_at}
use Rattle.nsc_wire.proofs.ReplyLoops.{texts_go_on, texts_end_early, texts_end, texts_done}
use Rattle.nsc_wire.proofs.reading.texts.Goals as goal

pub returns-in_err-size : goal.returns-in_err-size
returns-in_err-size c =
    let p = err_from_is_err_and c.from_residual.result c.from_residual.ensures.1 in
    rw (p.1, p.2) (texts_end_early c.in_err-size.field-0.0 c.loop.texts c.args.count c.loop.counter c.loop.lengths.now c.loop.rest.now (texts_at c.args.count c.args.lengths.now c.args.bytes.now) c.loop-test.true c.in_err-size.ensures c.loop.invariant)

pub returns-in_err-one : goal.returns-in_err-one
returns-in_err-one c =
    let p = err_from_is_err_and c.from_residual-in_err-one.result c.from_residual-in_err-one.ensures.1 in
    rw (p.1, p.2) (texts_end c.in_err-one.field-0.0 c.loop.texts c.args.count c.loop.counter c.loop.lengths.now c.loop.rest.now c.in_ok-size.size c.in_ok-size.others.now (texts_at c.args.count c.args.lengths.now c.args.bytes.now) c.loop-test.true c.in_ok-size.ensures c.in_err-one.ensures c.loop.invariant)

pub loop-preserved : goal.loop-preserved
loop-preserved c =
    rw c.in_ok-push.ensures.added (texts_go_on c.loop.texts c.args.count c.loop.counter c.loop.lengths.now c.loop.rest.now c.in_ok-size.size c.in_ok-size.others.now c.in_ok-one.one.now c.in_ok-one.after.now (texts_at c.args.count c.args.lengths.now c.args.bytes.now) c.loop-test.true c.in_ok-size.ensures c.in_ok-one.ensures c.loop.invariant)

pub returns : goal.returns
returns c = texts_done c.loop.texts c.args.count c.loop.counter c.loop.lengths.now c.loop.rest.now (texts_at c.args.count c.args.lengths.now c.args.bytes.now) c.loop-test.false c.loop.invariant
