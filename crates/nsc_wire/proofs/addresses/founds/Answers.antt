use Rattle.std.proofs.lemmas.Result.{err_from_is_err_and}
use Rattle.nsc_wire.specs.Replies.{founds_at}
use Rattle.nsc_wire.proofs.ReplyLoops.{founds_go_on, founds_end, founds_done}
use Rattle.nsc_wire.proofs.addresses.founds.Goals as goal

pub returns-in_err-one : goal.returns-in_err-one
returns-in_err-one c =
    let p = err_from_is_err_and c.from_residual-in_err-one.result c.from_residual-in_err-one.ensures.1 in
    rw (p.1, p.2) (founds_end c.in_err-one.field-0.0 c.loop.list.items c.args.count c.loop.counter c.loop.addresses.now c.loop.families.now (founds_at c.args.count c.args.addresses.now c.args.families.now) c.loop-test.true c.in_err-one.ensures c.loop.invariant)

pub loop-preserved : goal.loop-preserved
loop-preserved c =
    rw c.in_ok-push.ensures.items (founds_go_on c.loop.list.items c.args.count c.loop.counter c.loop.addresses.now c.loop.families.now c.in_ok-one.one c.in_ok-one.others.now c.in_ok-one.after.now (founds_at c.args.count c.args.addresses.now c.args.families.now) c.loop-test.true c.in_ok-one.ensures c.loop.invariant)

pub returns : goal.returns
returns c = founds_done c.loop.list.items c.args.count c.loop.counter c.loop.addresses.now c.loop.families.now (founds_at c.args.count c.args.addresses.now c.args.families.now) c.loop-test.false c.loop.invariant
