use Rattle.std.proofs.Common.{◌≡◌, ◌+◌, ◌*◌, ◌-◌, ◌≤◌, take, length, decimal, slice_index}
use Rattle.nsc_addr.proofs.Printed.{joined, with_text}
use Rattle.nsc_addr.proofs.print.print_v4.Given as goal

abbrev pub invariant-loop-octet : goal.invariant-loop-octet
invariant-loop-octet l = record {
  text : l.out ≡ with_text l.fn.out (joined 46 decimal (slice_index l.fn.address 0) (take l.octet-index l.later));
  room : length l.out.content + 4 * (length l.later - l.octet-index) ≤ l.out.limit;
}
