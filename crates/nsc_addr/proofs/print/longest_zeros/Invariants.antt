use Rattle.std.proofs.Common.{◌≡◌, ◌+◌, ◌≤◌, length, drop}
use Rattle.nsc_base.specs.Addresses.{zeros_at_front, longest_run}
use Rattle.nsc_addr.proofs.print.longest_zeros.Given as goal

abbrev pub invariant-loop-i : goal.invariant-loop-i
invariant-loop-i l = record {
  zeros : l.here ≡ zeros_at_front (drop l.i l.groups);
  before : l.longest.before ≡ l.i + (longest_run (drop l.i l.groups)).before;
  count : l.longest.count ≡ (longest_run (drop l.i l.groups)).count;
  here_within : l.i + l.here ≤ length l.groups;
  longest_within : l.longest.before + l.longest.count ≤ length l.groups;
}
