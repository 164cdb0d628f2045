use Rattle.std.proofs.Common.{filter, ap, ◌∙◌}
use Rattle.nsc_accounts.specs.Once.{all_ids}
use Rattle.nsc_base.specs.declared.search.Case.TheVariants.{Counts}
use Rattle.nsc_index.specs.Names.{has_name}
use Rattle.nsc_index.proofs.MemberRows.{ids_start, row_ids}
use Rattle.nsc_index.proofs.groups.GroupIndex.ids_of.Goals as goal

pub loop-at-init : goal.loop-at-init
loop-at-init c =
    let text = c.args.text.now in
    let user = c.args.user.now in
    let rows = c.places_of_name-at-items.result.now in
    let of_user = c.places_of_name-at-items.ensures ∙ ap (filter (has_name Counts text user)) c.deref.ensures.value in
    ap (λ ids. all_ids ids (row_ids text rows)) c.new-ids.ensures ∙ ids_start text user c.args.self.now c.requires rows of_user
