use Rattle.std.proofs.Common.{length, ap, arith}
use Rattle.nsc_wire.proofs.Sizes.{length-lengths}
use Rattle.nsc_wire.proofs.texts.texts_size.Goals as goal

pub overflow_mul-result : goal.overflow_mul-result
overflow_mul-result c = omega (arith, c.requires, length-lengths c.args.texts.now)

pub overflow_add-result : goal.overflow_add-result
overflow_add-result c = omega (arith, c.requires, length-lengths c.args.texts.now, ap length c.run.ensures)

pub returns : goal.returns
returns c = omega (arith, length-lengths c.args.texts.now, ap length c.run.ensures)
