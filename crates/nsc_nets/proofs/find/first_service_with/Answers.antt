use Rattle.std.proofs.Common.{rules, sym, subst}
use Rattle.nsc_base.specs.declared.search.Case.TheVariants.{Counts}
use Rattle.nsc_base.specs.Found.{Lacks}
use Rattle.nsc_base.specs.Text.{part}
use Rattle.nsc_model.specs.ServiceLines.{service_ported}
use Rattle.nsc_nets.specs.Services.{GivesService}
use Rattle.nsc_nets.proofs.Given.{first_given, or_lacks}
use Rattle.nsc_nets.proofs.PortDigits.{no_service_ported}
use Rattle.nsc_nets.proofs.find.first_service_with.Goals as goal

pub returns : goal.returns
returns c =
    let text = c.args.text.now in
    let given = GivesService (service_ported c.args.port c.args.proto.now) text in
    first_given given text c.first_line_with.result
    (or_lacks Counts c.args.digits.now text given
    (λ line r ordered ends gives. record { entry = search rules; inside = search rules; stands = search rules })
    (λ line lack. record { entry = sym (no_service_ported c.args.port c.args.proto.now (part text line) (subst (λ n. Lacks Counts n (part text line)) c.requires lack)); inside = tt; stands = tt }))
    c.first_line_with.ensures
