use Rattle.std.proofs.Common.{◌≡◌, ◌≤◌, ◌-◌, length, drop}
use Rattle.nsc_model.specs.Entries.{first_named}
use Rattle.nsc_model.specs.Hosts.{host_of_line}
use Rattle.nsc_nets.specs.Addresses.{of_other_family}
use Rattle.nsc_nets.proofs.addresses.other_from.Given as goal

abbrev pub invariant-loop-line : goal.invariant-loop-line
invariant-loop-line l = record {
  inside : l.from ≤ length l.text;
  left : first_named host_of_line (of_other_family l.family l.name) (drop l.from l.text) ≡ first_named host_of_line (of_other_family l.family l.name) (drop l.start l.text);
}

abbrev pub decreases-loop-line : goal.decreases-loop-line
decreases-loop-line l = length l.text - l.from
