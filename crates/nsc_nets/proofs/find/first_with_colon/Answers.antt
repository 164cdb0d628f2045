use Rattle.std.proofs.Common.{rules, [], ◌∷◌, sym}
use Rattle.nsc_base.specs.declared.search.Case.TheVariants.{Counts}
use Rattle.nsc_base.specs.Text.{part}
use Rattle.nsc_model.specs.Hosts.{host_addressed}
use Rattle.nsc_nets.specs.Hosts.{GivesHost}
use Rattle.nsc_nets.proofs.Colons.{no_host_addressed}
use Rattle.nsc_nets.proofs.Given.{first_given, or_lacks}
use Rattle.nsc_nets.proofs.find.first_with_colon.Goals as goal

pub returns : goal.returns
returns c =
    let text = c.args.text.now in
    let given = GivesHost (host_addressed c.args.address.now) text in
    first_given given text c.first_line_with.result
    (or_lacks Counts (58 ∷ []) text given
    (λ line r ordered ends gives. record { entry = search rules; inside = search rules; stands = search rules; padded = search rules })
    (λ line lack. record { entry = sym (no_host_addressed c.args.address.now (part text line) c.requires lack); inside = tt; stands = tt; padded = tt }))
    c.first_line_with.ensures
