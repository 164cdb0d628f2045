use Rattle.std.proofs.Common.{◌≡◌, ◌+◌, get_or, length, take}
use Rattle.nsc_seats.specs.Seats.{AreSeats, searches_of, seated}
use Rattle.nsc_seats.proofs.seats.absorb.Given as goal

abbrev pub invariant-loop-number : goal.invariant-loop-number
invariant-loop-number l = record {
  same : l.others.items ≡ l.fn.others.items;
  seats : AreSeats l.seats.items l.fn.present;
  tables : seated l.seats.items l.fn.present ≡ seated l.fn.seats.items l.fn.present;
  count : length l.seats.items ≡ length l.fn.seats.items;
  searches : searches_of l.seats.items ≡ searches_of l.fn.seats.items + searches_of (take l.number l.fn.others.items);
  here : get_or (seated l.fn.seats.items l.fn.present) l.number l.fn.present.table ≡ get_or (seated l.fn.others.items l.fn.other) l.number l.fn.present.table;
}
