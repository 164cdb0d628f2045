use Rattle.std.proofs.Common.{sym, ap, ◌∙◌}
use Rattle.nsc_model.specs.declared.row.Row.TheVariants as row
use Rattle.nsc_model.specs.Answers.{found_first, key_ported}
use Rattle.nsc_model.specs.Entries.{first_named}
use Rattle.nsc_model.specs.ServiceLines.{ServiceKey, service_of_line}
use Rattle.nsc_files.proofs.Numbers.{no_service}
use Rattle.nsc_files.proofs.services.service_by_port.Goals as goal

pub returns-in_default : goal.returns-in_default
returns-in_default g c =
    let text = c.args.text.now in
    let key : ServiceKey = record { asked = c.key_parts.result.0.now; proto = c.key_parts.result.1.now } in
    ap (found_first row.Service) (sym (ap (λ (k : ServiceKey). first_named service_of_line (key_ported k) text) (sym c.key_parts.ensures) ∙ no_service key text (sym c.key_port.ensures ∙ c.in_default.is)))
