use Rattle.std.proofs.Common.{filter, ap, ◌∙◌}
use Rattle.nsc_base.specs.declared.search.Case.TheVariants.{Counts}
use Rattle.nsc_index.specs.Names.{has_name}
use Rattle.nsc_index.proofs.NetRows.{service_by_name}
use Rattle.nsc_index.proofs.services.ServiceIndex.by_name.Goals as goal

pub loop-at-init : goal.loop-at-init
loop-at-init c = service_by_name c.args.text.now c.args.proto.now c.args.self.now c.requires c.args.name.now _ (c.places_of_name-at-items.ensures ∙ ap (filter (has_name Counts c.args.text.now c.args.name.now)) c.deref.ensures.value)
