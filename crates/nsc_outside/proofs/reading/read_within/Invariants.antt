use Rattle.std.proofs.Common.{◌≤◌, length}
use Rattle.std.specs.Io.KnownBytes.{Consumes}
use Rattle.nsc_outside.proofs.reading.read_within.Given as goal

-- the file had these bytes left, and then what it has left now
abbrev pub invariant-parts : goal.invariant-parts
invariant-parts g l = record {
  read : Consumes (g.F.Read.remaining l.initial.file) (g.F.Read.remaining l.file) l.bytes.items;
  within : length l.bytes.items ≤ l.limit;
}
