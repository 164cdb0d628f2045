use Rattle.std.proofs.Common.{filter, ap, ◌∙◌}
use Rattle.nsc_base.specs.declared.search.Case.TheVariants.{Ignored}
use Rattle.nsc_index.specs.Names.{has_name}
use Rattle.nsc_index.proofs.NetRows.{host_by_name}
use Rattle.nsc_index.proofs.hosts.HostIndex.by_name.Goals as goal

pub loop-at-init : goal.loop-at-init
loop-at-init c = host_by_name c.args.text.now c.args.self.now c.requires c.args.name.now c.args.family _ (c.places_of_name-at-items.ensures ∙ ap (filter (has_name Ignored c.args.text.now c.args.name.now)) c.deref.ensures.value)
