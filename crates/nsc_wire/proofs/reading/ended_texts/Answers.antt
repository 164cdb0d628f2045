use Rattle.std.proofs.lemmas.Result.{err_from_is_err_and}
use Rattle.nsc_wire.specs.Replies.{ended_texts_at}
use Rattle.nsc_wire.proofs.ReplyLoops.{ended_go_on, ended_end, ended_done}
use Rattle.nsc_wire.proofs.reading.ended_texts.Goals as goal

pub returns-in_err-one : goal.returns-in_err-one
returns-in_err-one c =
    let p = err_from_is_err_and c.from_residual.result c.from_residual.ensures.1 in
    rw (p.1, p.2) (ended_end c.in_err-one.field-0.0 c.loop.texts c.args.count c.loop.counter c.loop.rest.now (ended_texts_at c.args.count c.args.bytes.now) c.loop-test.true c.in_err-one.ensures c.loop.invariant)

pub loop-preserved : goal.loop-preserved
loop-preserved c =
    rw c.in_ok-push.ensures.added (ended_go_on c.loop.texts c.args.count c.loop.counter c.loop.rest.now c.in_ok-one.one.now c.in_ok-one.after.now (ended_texts_at c.args.count c.args.bytes.now) c.loop-test.true c.in_ok-one.ensures c.loop.invariant)

pub returns : goal.returns
returns c = ended_done c.loop.texts c.args.count c.loop.counter c.loop.rest.now (ended_texts_at c.args.count c.args.bytes.now) c.loop-test.false c.loop.invariant
