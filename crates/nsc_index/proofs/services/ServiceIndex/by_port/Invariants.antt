use Rattle.std.proofs.Common.{◌≡◌, drop}
use Rattle.nsc_model.specs.Entries.{first_named}
use Rattle.nsc_model.specs.ServiceLines.{proto_fits, service_of_line, service_ported}
use Rattle.nsc_index.specs.declared.numbers.NumberAt.{NumberAt}
use Rattle.nsc_index.specs.Indexes.{line_entry, on_line}
use Rattle.nsc_index.proofs.LineRows.{first_left}
use Rattle.nsc_index.proofs.services.ServiceIndex.by_port.Given as goal

-- the first one is on a line of the rows that are left
abbrev pub invariant-loop-at : goal.invariant-loop-at
invariant-loop-at l = first_left (λ (at : NumberAt). on_line (line_entry service_of_line l.text) l.text at.line) (proto_fits l.proto) (drop l.at-index l.at-items) ≡ first_named service_of_line (service_ported l.port l.proto) l.text
