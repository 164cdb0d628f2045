use Rattle.std.proofs.Common.{filter, ap, ◌∙◌}
use Rattle.nsc_index.specs.Numbers.{text_number}
use Rattle.nsc_index.specs.Numbers.{has_number}
use Rattle.nsc_index.proofs.NetRows.{host_by_address}
use Rattle.nsc_index.proofs.hosts.HostIndex.by_address.Goals as goal

pub loop-at-init : goal.loop-at-init
loop-at-init c =
    let number = text_number c.args.address.now in
    let of_number = c.places_of_number-at-items.ensures ∙ ap (λ n. filter (has_number n) c.deref.result.now) c.text_number.ensures ∙ ap (filter (has_number number)) c.deref.ensures.value in
    host_by_address c.args.text.now c.args.self.now c.requires c.args.address.now _ of_number
