use Rattle.std.proofs.Common.{arith}
use Rattle.nsc_wire.proofs.Sizes.{length-fields}
use Rattle.nsc_wire.proofs.groups.encode_ids.Goals as goal

pub overflow_cast-ids : goal.overflow_cast-ids
overflow_cast-ids c = omega (arith, c.requires, length-fields c.args.ids.now)
