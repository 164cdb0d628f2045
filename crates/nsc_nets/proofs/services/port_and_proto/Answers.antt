use Rattle.std.proofs.Common.{◌≡◌, ◌≢◌, true, false, sym, ◌∙◌, ap}
use Rattle.std.specs.Option.{option_map}
use Rattle.std.proofs.lemmas.Bool.Decides.{Decides-eqb}
use Rattle.nsc_base.specs.Text.{part}
use Rattle.nsc_model.specs.ServiceLines.{port_of}
use Rattle.nsc_nets.specs.Services.{port_at}
use Rattle.nsc_nets.proofs.Ports.{both, no_port, no_proto, no_slash}
use Rattle.nsc_nets.proofs.services.port_and_proto.Goals as goal

pub returns-in_err-digits-clause-port : goal.returns-in_err-digits-clause-port
returns-in_err-digits-clause-port c = ap (option_map (port_at c.args.text.now)) c.from_residual.ensures ∙ sym (no_slash (part c.args.text.now c.args.word) c.in_err-digits.ensures)

pub returns-then-is_empty-clause-port : goal.returns-then-is_empty-clause-port
returns-then-is_empty-clause-port c = sym (no_proto c.args.text.now c.args.word c.in_ok-digits.digits c.in_ok-digits.proto c.requires c.in_ok-digits.ensures ((Decides-eqb c.in_ok-digits.proto.from c.in_ok-digits.proto.to).0 (sym c.if-is_empty.ensures)))

pub returns-in_err-port-clause-port : goal.returns-in_err-port-clause-port
returns-in_err-port-clause-port c =
    ap (option_map (port_at c.args.text.now)) c.from_residual-in_err-port.ensures
    ∙ sym (no_port c.args.text.now c.args.word c.in_ok-digits.digits c.in_ok-digits.proto c.in_ok-digits.ensures (c.in_err-port.ensures ∙ ap port_of c.of.ensures.bytes))

pub returns-clause-port : goal.returns-clause-port
returns-clause-port c =
    let more : c.in_ok-digits.proto.from ≢ c.in_ok-digits.proto.to = λ same.
    let never : false ≡ true = c.if-is_empty.ensures ∙ (Decides-eqb c.in_ok-digits.proto.from c.in_ok-digits.proto.to).1 same in
    cc in
    sym (both c.args.text.now c.args.word c.in_ok-digits.digits c.in_ok-digits.proto c.in_ok-port.port c.requires c.in_ok-digits.ensures more (c.in_ok-port.ensures ∙ ap port_of c.of.ensures.bytes))
