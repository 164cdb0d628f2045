use Rattle.std.proofs.Common.{◌≡◌, ◌<◌, ◌+◌, ◌*◌, false, slice_range, rules, drop, get_or, sym, ◌∙◌, ap, subst, arith}
use Rattle.std.specs.Fmt.{digits}
use Rattle.nsc_base.specs.declared.search.Case.TheVariants.{Counts, Ignored}
use Rattle.nsc_base.specs.Addresses.{v4_text}
use Rattle.nsc_base.specs.Found.{Lacks}
use Rattle.nsc_base.specs.Text.{part}
use Rattle.nsc_model.specs.Hosts.{host_addressed}
use Rattle.nsc_nets.specs.Hosts.{GivesHost}
use Rattle.nsc_nets.proofs.Endings.{last_digits, no_host_ending}
use Rattle.nsc_nets.proofs.Given.{first_given, or_lacks}
use Rattle.nsc_nets.proofs.Lacking.{lacks_part}
use Rattle.nsc_nets.proofs.find.first_ending.Goals as goal

pub returns : goal.returns
returns c =
    let text = c.args.text.now in
    let address = c.args.address.now in
    let given = GivesHost (host_addressed address) text in
    let spelled : slice_range c.group_digits-start.result.0 c.group_digits-start.result.1 4 ≡ last_digits address =
    c.group_digits-start.ensures.text ∙ ap (λ a. digits 16 false (a * 256 + c.args.low)) c.requires.high ∙ ap (λ b. digits 16 false (get_or address 14 0 * 256 + b)) c.requires.low in
    let some : 0 < get_or address 14 0 = omega (arith, c.requires.high, c.requires.three_digits) in
    first_given given text c.first_line_with.result
    (or_lacks Ignored _ text given
    (λ line r ordered ends gives. record { entry = search rules; inside = search rules; stands = search rules; padded = search rules })
    (λ line lack. record { entry = sym (no_host_ending address (part text line) c.requires.v6 some (subst (λ n. Lacks Ignored n (part text line)) spelled lack) (lacks_part Counts (v4_text (drop 12 address)) text line c.requires.dotless)); inside = tt; stands = tt; padded = tt }))
    c.first_line_with.ensures
