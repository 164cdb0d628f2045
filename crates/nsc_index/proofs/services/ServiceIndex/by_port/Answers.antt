use Rattle.std.proofs.Common.{filter, ap, ◌∙◌}
use Rattle.nsc_index.specs.Numbers.{has_number}
use Rattle.nsc_index.proofs.NetRows.{service_by_port}
use Rattle.nsc_index.proofs.services.ServiceIndex.by_port.Goals as goal

pub loop-at-init : goal.loop-at-init
loop-at-init c =
    let of_port = c.places_of_number-at-items.ensures ∙ ap (λ n. filter (has_number n) c.deref.result.now) c.from.ensures ∙ ap (filter (has_number c.args.port)) c.deref.ensures.value in
    service_by_port c.args.text.now c.args.proto.now c.args.self.now c.requires c.args.port _ of_port
