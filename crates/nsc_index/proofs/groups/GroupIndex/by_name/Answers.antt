use Rattle.std.proofs.Common.{filter, ap, ◌∙◌, rules}
use Rattle.nsc_base.specs.declared.search.Case.TheVariants.{Counts}
use Rattle.nsc_index.specs.Names.{has_name}
use Rattle.nsc_index.proofs.GroupRows.{by_name as found}
use Rattle.nsc_index.proofs.groups.GroupIndex.by_name.Goals as goal

pub returns-in_err-at-clause-entry : goal.returns-in_err-at-clause-entry
returns-in_err-at-clause-entry c = found c.args.text.now c.args.self.now c.requires c.args.name.now _ _ _ (c.places_of_name.ensures ∙ ap (filter (has_name Counts c.args.text.now c.args.name.now)) c.deref.ensures.value) c.in_err-at.ensures.value (search rules)

pub returns-clause-entry : goal.returns-clause-entry
returns-clause-entry c = found c.args.text.now c.args.self.now c.requires c.args.name.now _ _ _ (c.places_of_name.ensures ∙ ap (filter (has_name Counts c.args.text.now c.args.name.now)) c.deref.ensures.value) c.in_ok-at.ensures.value c.group_on.ensures.entry
