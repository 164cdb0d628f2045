use Rattle.std.proofs.Common.{Some, filter, ap, ◌∙◌}
use Rattle.nsc_base.specs.declared.search.Case.TheVariants.{Ignored}
use Rattle.nsc_model.specs.declared.row.Ai.{Ai}
use Rattle.nsc_index.specs.Names.{has_name}
use Rattle.nsc_index.proofs.NetRows.{all_addresses_are, no_addresses}
use Rattle.nsc_index.proofs.hosts.HostIndex.addresses.Goals as goal

pub returns-in_default : goal.returns-in_default
returns-in_default c =
    let of_name = c.places_of_name-lines.ensures ∙ ap (filter (has_name Ignored c.args.text.now c.args.name.now)) c.deref.ensures.value in
    no_addresses c.args.text.now c.args.name.now c.args.self.now c.requires c.places_of_name-lines.result.now of_name c.in_default.ensures.entry

pub returns : goal.returns
returns c =
    let of_name = c.places_of_name-lines.ensures ∙ ap (filter (has_name Ignored c.args.text.now c.args.name.now)) c.deref.ensures.value in
    ap (λ (ai : Ai). Some ai) c.in_ok-ai_row.ensures
    ∙ all_addresses_are c.args.text.now c.args.name.now c.args.self.now c.requires c.places_of_name-lines.result.now of_name c.in-Some.first c.other_host-other.result c.in-Some.ensures.entry c.other_host-other.ensures.entry
