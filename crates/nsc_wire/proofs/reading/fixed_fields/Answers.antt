use Rattle.std.proofs.lemmas.Result.{err_from_is_err_and}
use Rattle.nsc_wire.specs.Replies.{all_fixed}
use Rattle.nsc_wire.proofs.ReplyLoops.{fixed_go_on, fixed_end, fixed_done}
use Rattle.nsc_wire.proofs.reading.fixed_fields.Goals as goal

pub returns-in_err-rest : goal.returns-in_err-rest
returns-in_err-rest c =
    let p = err_from_is_err_and c.from_residual.result c.from_residual.ensures.1 in
    rw (p.1, p.2) (fixed_end c.in_err-rest.field-0.0 c.args.values.now c.loop-value.value-index c.loop-value.rest.now (all_fixed c.args.values.now c.args.bytes.now) c.loop-value-test.true c.in_err-rest.ensures c.loop-value.invariant)

pub loop-value-preserved : goal.loop-value-preserved
loop-value-preserved c = fixed_go_on c.args.values.now c.loop-value.value-index c.loop-value.rest.now c.in_ok-rest.rest.now (all_fixed c.args.values.now c.args.bytes.now) c.loop-value-test.true c.in_ok-rest.ensures c.loop-value.invariant

pub returns : goal.returns
returns c = fixed_done c.args.values.now c.loop-value.value-index c.loop-value.rest.now (all_fixed c.args.values.now c.args.bytes.now) c.loop-value-test.false c.loop-value.invariant
