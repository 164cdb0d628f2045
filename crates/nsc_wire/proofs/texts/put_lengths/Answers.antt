use Rattle.std.proofs.Common.{arith}
use Rattle.nsc_wire.proofs.Sizes.{count_within}
use Rattle.nsc_wire.proofs.texts.put_lengths.Goals as goal

pub overflow_mul-len : goal.overflow_mul-len
overflow_mul-len c = omega (arith, c.requires, c.len.ensures, count_within c.args.texts.now)

pub overflow_add-from : goal.overflow_add-from
overflow_add-from c = omega (arith, c.requires, c.len.ensures, c.len-from.ensures, c.args.out.now.small, c.args.out.now.ok, count_within c.args.texts.now)
