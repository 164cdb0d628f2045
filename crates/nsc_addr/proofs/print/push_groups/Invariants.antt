use Rattle.std.proofs.Common.{◌≡◌, ◌+◌, ◌*◌, ◌-◌, ◌≤◌, false, take, length, slice_index}
use Rattle.std.specs.Fmt.{digits}
use Rattle.nsc_addr.proofs.Printed.{joined, with_text}
use Rattle.nsc_addr.proofs.print.push_groups.Given as goal

abbrev pub invariant-loop-group : goal.invariant-loop-group
invariant-loop-group l = record {
  text : l.out ≡ with_text l.fn.out (joined 58 (digits 16 false) (slice_index l.groups 0) (take l.group-index l.later));
  room : length l.out.content + 5 * (length l.later - l.group-index) ≤ l.out.limit;
  size : length l.out.content ≤ length l.fn.out.content + 4 + 5 * l.group-index;
}
