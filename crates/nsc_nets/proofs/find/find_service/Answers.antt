use Rattle.std.proofs.Common.{rules, sym}
use Rattle.nsc_base.specs.declared.search.Case.TheVariants.{Counts}
use Rattle.nsc_base.specs.Text.{part}
use Rattle.nsc_model.specs.ServiceLines.{service_named}
use Rattle.nsc_nets.specs.Services.{GivesService}
use Rattle.nsc_nets.proofs.Firsts.{service-entry, service-inside}
use Rattle.nsc_nets.proofs.Given.{first_given, or_lacks}
use Rattle.nsc_nets.proofs.Unnamed.{no_service_called}
use Rattle.nsc_nets.proofs.find.find_service.Goals as goal

pub returns-clause-first : goal.returns-clause-first
returns-clause-first c =
    let text = c.args.text.now in
    let given = GivesService (service_named c.args.name.now c.args.proto.now) text in
    first_given given text c.first_line_with.result
    (or_lacks Counts c.args.name.now text given
    (λ line r ordered ends gives. record { entry = search rules; inside = search rules; stands = search rules })
    (λ line lack. record { entry = sym (no_service_called c.args.name.now c.args.proto.now (part text line) lack); inside = tt; stands = tt }))
    c.first_line_with.ensures

pub returns-clause-entry : goal.returns-clause-entry
returns-clause-entry c = service-entry (service_named c.args.name.now c.args.proto.now) c.args.text.now c.first_line_with.result (returns-clause-first c)

pub returns-clause-inside : goal.returns-clause-inside
returns-clause-inside c = service-inside (service_named c.args.name.now c.args.proto.now) c.args.text.now c.first_line_with.result (returns-clause-first c)
