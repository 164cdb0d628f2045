use Rattle.std.proofs.Common.{rules, ◌==◌, sym}
use Rattle.nsc_base.specs.declared.search.Case.TheVariants.{Ignored}
use Rattle.nsc_base.specs.Text.{part}
use Rattle.nsc_model.specs.Hosts.{host_named}
use Rattle.nsc_nets.specs.Hosts.{GivesHost}
use Rattle.nsc_nets.proofs.Firsts.{host-entry, host-inside, host-padded}
use Rattle.nsc_nets.proofs.Given.{first_given, or_lacks}
use Rattle.nsc_nets.proofs.Unnamed.{no_host_of}
use Rattle.nsc_nets.proofs.find.find_host.Goals as goal

pub returns-clause-first : goal.returns-clause-first
returns-clause-first c =
    let text = c.args.text.now in
    let given = GivesHost (host_named c.args.family c.args.name.now) text in
    first_given given text c.first_line_with.result
    (or_lacks Ignored c.args.name.now text given
    (λ line r ordered ends gives. record { entry = search rules; inside = search rules; stands = search rules; padded = search rules })
    (λ line lack. record { entry = sym (no_host_of (λ h. h.family == c.args.family) c.args.name.now (part text line) lack); inside = tt; stands = tt; padded = tt }))
    c.first_line_with.ensures

pub returns-clause-entry : goal.returns-clause-entry
returns-clause-entry c = host-entry (host_named c.args.family c.args.name.now) c.args.text.now c.first_line_with.result (returns-clause-first c)

pub returns-clause-inside : goal.returns-clause-inside
returns-clause-inside c = host-inside (host_named c.args.family c.args.name.now) c.args.text.now c.first_line_with.result (returns-clause-first c)

pub returns-clause-padded : goal.returns-clause-padded
returns-clause-padded c = host-padded (host_named c.args.family c.args.name.now) c.args.text.now c.first_line_with.result (returns-clause-first c)
