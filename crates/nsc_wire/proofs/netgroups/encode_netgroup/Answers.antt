use Rattle.std.proofs.Common.{arith}
use Rattle.nsc_wire.proofs.Sizes.{count_within}
use Rattle.nsc_wire.proofs.netgroups.encode_netgroup.Goals as goal

pub overflow_cast-count : goal.overflow_cast-count
overflow_cast-count c = omega (arith, c.requires, c.len-count.ensures, count_within c.args.texts.now)
