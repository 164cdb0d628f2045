use Rattle.nsc_laws.proofs.AddressTexts.{read-print_v4}
use Rattle.nsc_laws.proofs.addresses.printed_v4_is_read.Goals as goal

pub returns : goal.returns
returns c = read-print_v4
