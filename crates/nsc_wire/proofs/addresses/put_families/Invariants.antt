use Rattle.std.proofs.Common.{◌≡◌, ◌++◌, map, take}
use Rattle.nsc_model.specs.declared.row.Found6.{Found6}
use Rattle.nsc_wire.proofs.addresses.put_families.Given as goal

abbrev pub invariant-loop-found : goal.invariant-loop-found
invariant-loop-found l = l.out.items ≡ l.initial.out.items ++ map (λ (f : Found6). f.family) (take l.found-index l.list)
