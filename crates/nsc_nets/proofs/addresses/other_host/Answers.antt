use Rattle.std.proofs.Common.{not, ◌==◌, sym, ◌∙◌, ap}
use Rattle.std.specs.Option.{option_map}
use Rattle.std.proofs.lemmas.Bool.{false_from_ne_true}
use Rattle.std.proofs.lemmas.Bool.Decides.{Decides-eqb}
use Rattle.nsc_base.specs.Text.{part}
use Rattle.nsc_model.specs.declared.row.Host.{Host}
use Rattle.nsc_model.specs.Entries.{if_named}
use Rattle.nsc_model.specs.Hosts.{host_has_name, host_of_line}
use Rattle.nsc_nets.specs.Hosts.{host_at}
use Rattle.nsc_nets.proofs.Called.{if_named-both, if_named-no, if_named-yes}
use Rattle.nsc_nets.proofs.addresses.other_host.Goals as goal

pub returns-in_err-host : goal.returns-in_err-host
returns-in_err-host c =
    let is_other = λ (h : Host). not (h.family == c.args.family) in
    ap (option_map (host_at c.args.text.now)) c.from_residual.ensures
    ∙ ap (if_named is_other) c.in_err-host.ensures.entry
    ∙ sym (if_named-both is_other (host_has_name c.args.name.now) (host_of_line (part c.args.text.now c.args.line)))

pub returns-then-host-family : goal.returns-then-host-family
returns-then-host-family c =
    let is_other = λ (h : Host). not (h.family == c.args.family) in
    let found = host_at c.args.text.now c.in_ok-host.host in
    sym (if_named-no is_other found (ap not ((Decides-eqb found.family c.args.family).1 c.if-host-family.true)))
    ∙ ap (if_named is_other) c.in_ok-host.ensures.entry
    ∙ sym (if_named-both is_other (host_has_name c.args.name.now) (host_of_line (part c.args.text.now c.args.line)))

pub returns-else-host-family : goal.returns-else-host-family
returns-else-host-family c =
    let is_other = λ (h : Host). not (h.family == c.args.family) in
    let found = host_at c.args.text.now c.in_ok-host.host in
    sym (if_named-yes is_other found (ap not (false_from_ne_true (found.family == c.args.family) (λ is. c.if-host-family.false ((Decides-eqb found.family c.args.family).0 is)))))
    ∙ ap (if_named is_other) c.in_ok-host.ensures.entry
    ∙ sym (if_named-both is_other (host_has_name c.args.name.now) (host_of_line (part c.args.text.now c.args.line)))
