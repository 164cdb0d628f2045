use Rattle.std.proofs.Common.{None, ◌++◌, filter, map, ap, ◌∙◌}
use Rattle.nsc_base.specs.declared.search.Case.TheVariants.{Counts}
use Rattle.nsc_accounts.specs.NamedId.{pair_of}
use Rattle.nsc_index.specs.Names.{has_name}
use Rattle.nsc_index.proofs.OnceRows.{pairs_left, pairs_start}
use Rattle.nsc_index.proofs.groups.GroupIndex.named_groups.Goals as goal

pub loop-at-init : goal.loop-at-init
loop-at-init c =
    let text = c.args.text.now in
    let user = c.args.user.now in
    let rows = c.places_of_name-at-items.result.now in
    let of_user = c.places_of_name-at-items.ensures ∙ ap (filter (has_name Counts text user)) c.deref.ensures.value in
    ap (λ items. map pair_of items ++ pairs_left text None rows) c.new-groups.ensures.items ∙ pairs_start text user c.args.self.now c.requires rows of_user
