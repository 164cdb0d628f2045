use Rattle.std.proofs.Common.{◌≡◌, ◌++◌, take}
use Rattle.std.specs.List.{flat_map}
use Rattle.nsc_fuzz.specs.Told.{address_told}
use Rattle.nsc_fuzz.proofs.row.put_addresses.Given as goal

abbrev pub invariant-loop-found : goal.invariant-loop-found
invariant-loop-found l = l.out.items ≡ l.initial.out.items ++ flat_map address_told (take l.found-index l.list)
