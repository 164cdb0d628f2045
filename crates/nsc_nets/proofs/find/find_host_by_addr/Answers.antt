use Rattle.nsc_model.specs.Hosts.{host_addressed}
use Rattle.nsc_nets.proofs.Firsts.{host-entry, host-inside, host-padded}
use Rattle.nsc_nets.proofs.find.find_host_by_addr.Goals as goal

pub returns-clause-entry : goal.returns-clause-entry
returns-clause-entry c = host-entry (host_addressed c.args.address.now) c.args.text.now c.first_addressed.result c.first_addressed.ensures

pub returns-clause-inside : goal.returns-clause-inside
returns-clause-inside c = host-inside (host_addressed c.args.address.now) c.args.text.now c.first_addressed.result c.first_addressed.ensures

pub returns-clause-padded : goal.returns-clause-padded
returns-clause-padded c = host-padded (host_addressed c.args.address.now) c.args.text.now c.first_addressed.result c.first_addressed.ensures
