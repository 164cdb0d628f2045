use Rattle.std.proofs.Common.{◌≡◌, ◌≤◌, ◌-◌, ◌++◌, length}
use Rattle.nsc_index.specs.Indexes.{rows_from}
use Rattle.nsc_index.specs.Hosts.{host_addresses, host_names}
use Rattle.nsc_index.proofs.hosts.HostIndex.of.Given as goal

-- the rows so far, and those of the lines that are left
abbrev pub invariant-loop-line : goal.invariant-loop-line
invariant-loop-line l = record {
  inside : l.from ≤ length l.text;
  names : l.names.items ++ rows_from (host_names l.text) l.text l.from ≡ rows_from (host_names l.text) l.text 0;
  addresses : l.addresses.items ++ rows_from (host_addresses l.text) l.text l.from ≡ rows_from (host_addresses l.text) l.text 0;
}

abbrev pub decreases-loop-line : goal.decreases-loop-line
decreases-loop-line l = length l.text - l.from
