use Rattle.std.proofs.Common.{List, ℕ, sym, ◌∙◌, ap, Some}
use Rattle.std.specs.declared.net.ipv4_addr.Ipv4Addr.{Ipv4Addr}
use Rattle.nsc_base.specs.Addresses.{v4_of}
use Rattle.nsc_addr.proofs.Options.{none_from}
use Rattle.nsc_addr.proofs.Dotted.{v4_of_dotted, dotted_of_v4}
use Rattle.nsc_addr.proofs.read.read_v4.Goals as goal

pub returns-in-Ok : goal.returns-in-Ok
returns-in-Ok c = ap Some c.octets.ensures ∙ sym (v4_of_dotted c.args.text.now c.in-Ok.address.octets c.in-Ok.ensures)

pub returns-in-Err : goal.returns-in-Err
returns-in-Err c =
    let address : List ℕ → Ipv4Addr = λ octets. record { octets = octets } in
    sym (none_from (v4_of c.args.text.now) (λ octets h. c.in-Err.ensures (address octets) (dotted_of_v4 c.args.text.now octets h)))
