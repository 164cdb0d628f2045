use Rattle.std.proofs.Common.{◌≡◌, drop, filter}
use Rattle.nsc_model.specs.Entries.{first_of}
use Rattle.nsc_model.specs.Hosts.{host_of_line}
use Rattle.nsc_index.specs.declared.names.NameAt.{NameAt}
use Rattle.nsc_index.specs.Hosts.{hosts_on, is_other_than}
use Rattle.nsc_index.specs.Indexes.{line_entry, on_line}
use Rattle.nsc_index.proofs.LineRows.{first_left}
use Rattle.nsc_index.proofs.hosts.other_host.Given as goal

-- the first one is on a line of the rows that are left
abbrev pub invariant-loop-at : goal.invariant-loop-at
invariant-loop-at l = first_left (λ (at : NameAt). on_line (line_entry host_of_line l.text) l.text at.line) (is_other_than l.family) (drop l.at-index l.lines) ≡ first_of (filter (is_other_than l.family) (hosts_on l.text l.lines))
