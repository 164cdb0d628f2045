use Rattle.std.proofs.Common.{◌≡◌, length, take}
use Rattle.std.specs.List.{flat_map}
use Rattle.nsc_model.specs.declared.row.Found6.{Found6}
use Rattle.nsc_wire.proofs.addresses.addresses_size.Given as goal

abbrev pub invariant-loop-found : goal.invariant-loop-found
invariant-loop-found l = l.size ≡ length (flat_map (λ (f : Found6). f.address) (take l.found-index l.list))
