use Rattle.std.proofs.Common.{arith}
use Rattle.nsc_wire.proofs.Sizes.{length-lengths}
use Rattle.nsc_wire.proofs.texts.texts_count.Goals as goal

pub overflow_cast-result : goal.overflow_cast-result
overflow_cast-result c = omega (arith, c.requires, length-lengths c.args.texts.now)
