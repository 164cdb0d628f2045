use Rattle.std.proofs.Common.{◌≡◌, ◌++◌, map, take}
use Rattle.nsc_index.proofs.places.add_named.Given as goal

abbrev pub invariant-loop-at : goal.invariant-loop-at
invariant-loop-at l = l.places.items ≡ l.initial.places.items ++ map (λ at. at.line) (take l.at-index l.names)
