use Rattle.nsc_laws.proofs.AddressTexts.{read-print_v6}
use Rattle.nsc_laws.proofs.addresses.printed_v6_is_read.Goals as goal

pub returns : goal.returns
returns c = read-print_v6
