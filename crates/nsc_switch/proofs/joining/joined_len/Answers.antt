use Rattle.std.proofs.Common.{arith, length, ap}
use Rattle.nsc_switch.proofs.Lengths.{joined_size}
use Rattle.nsc_switch.proofs.joining.joined_len.Goals as goal

pub returns : goal.returns
returns c =
    omega (arith, joined_size c.args.held.now c.args.found.now, ap length c.run.ensures, ap length c.run-2.ensures, c.len.ensures, c.len-2.ensures, c.len-3.ensures, c.len-4.ensures)
