use Rattle.std.proofs.Common.{◌≡◌, ◌≤◌, ◌-◌, ◌++◌, length}
use Rattle.nsc_index.specs.Indexes.{rows_from}
use Rattle.nsc_index.specs.Services.{service_names, service_ports}
use Rattle.nsc_index.proofs.services.ServiceIndex.of.Given as goal

-- the rows so far, and those of the lines that are left
abbrev pub invariant-loop-line : goal.invariant-loop-line
invariant-loop-line l = record {
  inside : l.from ≤ length l.text;
  names : l.names.items ++ rows_from (service_names l.text) l.text l.from ≡ rows_from (service_names l.text) l.text 0;
  ports : l.ports.items ++ rows_from (service_ports l.text) l.text l.from ≡ rows_from (service_ports l.text) l.text 0;
}

abbrev pub decreases-loop-line : goal.decreases-loop-line
decreases-loop-line l = length l.text - l.from
