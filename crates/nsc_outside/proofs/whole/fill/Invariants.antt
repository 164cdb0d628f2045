use Rattle.std.proofs.Common.{length, ◌-◌, ◌≡◌, ◌≤◌, take}
use Rattle.nsc_outside.specs.Stream.{Moves}
use Rattle.nsc_outside.proofs.whole.fill.Given as goal

abbrev pub invariant-loop-count : goal.invariant-loop-count
invariant-loop-count g l = record {
  within : l.count ≤ length l.buf;
  moved : Moves (g.R.Source.left l.fn.input) (g.R.Source.left l.input) (take l.count l.buf);
  calm : g.R.Source.faults l.input ≡ g.R.Source.faults l.fn.input;
}

abbrev pub decreases-loop-count : goal.decreases-loop-count
decreases-loop-count g l = length l.initial.buf - l.count
