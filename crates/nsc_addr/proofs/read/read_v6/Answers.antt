use Rattle.std.proofs.Common.{List, ℕ, sym, ◌∙◌, ap, Some}
use Rattle.std.specs.declared.net.ipv6_addr.Ipv6Addr.{Ipv6Addr}
use Rattle.nsc_base.specs.Addresses.{v6_of}
use Rattle.nsc_addr.proofs.Options.{none_from}
use Rattle.nsc_addr.proofs.ColonHex.{v6_of_colon_hex, colon_hex_of_v6}
use Rattle.nsc_addr.proofs.read.read_v6.Goals as goal

pub returns-in-Ok : goal.returns-in-Ok
returns-in-Ok c = ap Some c.octets.ensures ∙ sym (v6_of_colon_hex c.args.text.now c.in-Ok.address.segments c.in-Ok.ensures)

pub returns-in-Err : goal.returns-in-Err
returns-in-Err c =
    let address : List ℕ → Ipv6Addr = λ segments. record { segments = segments } in
    sym (none_from (v6_of c.args.text.now) (λ octets h.
    let found = colon_hex_of_v6 c.args.text.now octets h in
    c.in-Err.ensures (address found.0) found.1))
