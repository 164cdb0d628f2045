use Rattle.std.proofs.Common.{◌≡◌, ◌++◌, take}
use Rattle.std.specs.List.{flat_map}
use Rattle.nsc_model.specs.declared.row.Found6.{Found6}
use Rattle.nsc_wire.proofs.addresses.put_addresses.Given as goal

abbrev pub invariant-loop-found : goal.invariant-loop-found
invariant-loop-found l = l.out.items ≡ l.initial.out.items ++ flat_map (λ (f : Found6). f.address) (take l.found-index l.list)
