use Rattle.std.proofs.Common.{◌≡◌, ◌≤◌, length}
use Rattle.nsc_seats.specs.Seats.{AreAt}
use Rattle.nsc_seats.proofs.seats.agree.Given as goal

abbrev pub invariant-loop-number : goal.invariant-loop-number
invariant-loop-number l = record {
  former : l.former.items ≡ l.fn.former.items;
  left : l.left ≡ l.fn.left;
  writer : l.writer ≡ l.fn.writer;
  fewer : l.number ≤ length l.fn.left;
  here : AreAt l.number l.fn.former.items l.fn.present l.fn.left l.fn.writer.table;
}
