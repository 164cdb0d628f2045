use Rattle.std.proofs.Common.{◌≡◌, take}
use Rattle.nsc_seats.proofs.seats.split.Given as goal

abbrev pub invariant-loop-number : goal.invariant-loop-number
invariant-loop-number l = record {
  same : l.seats.items ≡ l.fn.seats.items;
  made : l.made.items ≡ take l.number l.fn.seats.items;
}
