use Rattle.std.proofs.Common.{◌≡◌, ◌==◌, drop}
use Rattle.nsc_model.specs.Entries.{first_named}
use Rattle.nsc_model.specs.Hosts.{host_named, host_of_line}
use Rattle.nsc_index.specs.declared.names.NameAt.{NameAt}
use Rattle.nsc_index.specs.Indexes.{line_entry, on_line}
use Rattle.nsc_index.proofs.LineRows.{first_left}
use Rattle.nsc_index.proofs.hosts.HostIndex.by_name.Given as goal

-- the first one is on a line of the rows that are left
abbrev pub invariant-loop-at : goal.invariant-loop-at
invariant-loop-at l = first_left (λ (at : NameAt). on_line (line_entry host_of_line l.text) l.text at.line) (λ h. h.family == l.family) (drop l.at-index l.at-items) ≡ first_named host_of_line (host_named l.family l.name) l.text
