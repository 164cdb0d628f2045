use Rattle.std.proofs.Common.{length}
use Rattle.nsc_outside.specs.FileSets.{IsAllOf}
use Rattle.nsc_outside.proofs.comparing.has_just.Given as goal

-- the reader had just the known bytes left, if it has just the rest left now
abbrev pub invariant-parts : goal.invariant-parts
invariant-parts g l = IsAllOf (g.F.Read.remaining l.reader) l.rest → IsAllOf (g.F.Read.remaining l.initial.reader) l.initial.rest

abbrev pub decreases-parts : goal.decreases-parts
decreases-parts g l = length l.rest
