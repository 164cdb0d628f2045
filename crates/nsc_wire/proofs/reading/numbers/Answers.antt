use Rattle.std.proofs.lemmas.Result.{err_from_is_err_and}
use Rattle.nsc_wire.specs.Replies.{numbers_at}
use Rattle.nsc_wire.proofs.ReplyLoops.{numbers_go_on, numbers_end, numbers_done}
use Rattle.nsc_wire.proofs.reading.numbers.Goals as goal

pub returns-in_err-one : goal.returns-in_err-one
returns-in_err-one c =
    let p = err_from_is_err_and c.from_residual-in_err-one.result c.from_residual-in_err-one.ensures.1 in
    rw (p.1, p.2) (numbers_end c.in_err-one.field-0.0 c.loop.numbers.items c.args.count c.loop.counter c.loop.rest.now (numbers_at c.args.count c.args.bytes.now) c.loop-test.true c.in_err-one.ensures c.loop.invariant)

pub loop-preserved : goal.loop-preserved
loop-preserved c =
    rw c.in_ok-push.ensures.items (numbers_go_on c.loop.numbers.items c.args.count c.loop.counter c.loop.rest.now c.in_ok-one.one c.in_ok-one.after.now (numbers_at c.args.count c.args.bytes.now) c.loop-test.true c.in_ok-one.ensures c.loop.invariant)

pub returns : goal.returns
returns c = numbers_done c.loop.numbers.items c.args.count c.loop.counter c.loop.rest.now (numbers_at c.args.count c.args.bytes.now) c.loop-test.false c.loop.invariant
