use Rattle.std.proofs.Common.{arith}
use Rattle.nsc_wire.proofs.Sizes.{address_within}
use Rattle.nsc_wire.proofs.addresses.addresses_size.Goals as goal

pub overflow_add-size : goal.overflow_add-size
overflow_add-size c = omega (arith, c.len-size.ensures, address_within c.args.list.now c.loop-found.found-index c.found-item.result c.loop-found-test.true c.found-item.is, c.requires)
