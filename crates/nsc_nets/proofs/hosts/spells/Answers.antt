use Rattle.nsc_nets.proofs.Lengths.{not_v6}
use Rattle.nsc_nets.proofs.hosts.spells.Goals as goal

pub returns-in-None : goal.returns-in-None
returns-in-None c = not_v6 c.args.text.now c.args.address.now c.in-None.ensures c.if-address-eq16.false
