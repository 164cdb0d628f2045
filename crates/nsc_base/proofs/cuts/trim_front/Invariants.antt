use Rattle.std.proofs.Common.{◌≡◌, ◌≤◌, length}
use Rattle.nsc_base.specs.Text.{trimmed}
use Rattle.nsc_base.proofs.cuts.trim_front.Given as goal

abbrev pub invariant-loop-rest : goal.invariant-loop-rest
invariant-loop-rest l = record {
  left : trimmed l.rest ≡ trimmed l.bytes;
  within : length l.rest ≤ length l.bytes;
}

abbrev pub decreases-loop-rest : goal.decreases-loop-rest
decreases-loop-rest l = length l.rest
