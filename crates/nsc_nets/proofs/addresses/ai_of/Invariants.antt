use Rattle.std.proofs.Common.{◌≡◌, ◌≤◌, ◌-◌, length, drop}
use Rattle.nsc_model.specs.Entries.{named_in}
use Rattle.nsc_model.specs.Hosts.{host_has_name, host_of_line}
use Rattle.nsc_nets.proofs.addresses.ai_of.Given as goal

abbrev pub invariant-loop-line : goal.invariant-loop-line
invariant-loop-line l = record {
  inside : l.from ≤ length l.text;
  left : named_in host_of_line (host_has_name l.name) (drop l.from l.text) ≡ named_in host_of_line (host_has_name l.name) l.text;
}

abbrev pub decreases-loop-line : goal.decreases-loop-line
decreases-loop-line l = length l.text - l.from
