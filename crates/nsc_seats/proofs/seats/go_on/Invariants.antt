use Rattle.std.proofs.Common.{◌≡◌, ◌+◌, length}
use Rattle.nsc_model.specs.History.{IsPrefix}
use Rattle.nsc_seats.specs.Seats.{AreAt, AreSeats, first_of, searches_of}
use Rattle.nsc_seats.proofs.seats.go_on.Given as goal

abbrev pub invariant-loop-number : goal.invariant-loop-number
invariant-loop-number l = record {
  left : l.left ≡ l.fn.left;
  seats : AreSeats l.former.items l.present;
  first : first_of l.former.items l.present ≡ first_of l.fn.former.items l.fn.present;
  before : IsPrefix l.fn.present.seen l.present.seen;
  searches : searches_of l.former.items + l.present.searching.searches ≡ searches_of l.fn.former.items + l.fn.present.searching.searches;
  number : length l.former.items ≡ l.number;
  here : AreAt l.number l.former.items l.present l.fn.left l.fn.writer.table;
}
