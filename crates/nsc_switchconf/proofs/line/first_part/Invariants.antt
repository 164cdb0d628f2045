use Rattle.std.proofs.Common.{◌≡◌, ◌≤◌, ◌-◌, length, drop}
use Rattle.nsc_model.specs.Switches.{first_line}
use Rattle.nsc_switchconf.proofs.line.first_part.Given as goal

abbrev pub invariant-loop-line : goal.invariant-loop-line
invariant-loop-line l = record {
  inside : l.from ≤ length l.text;
  left : first_line l.name (drop l.from l.text) ≡ first_line l.name l.text;
}

abbrev pub decreases-loop-line : goal.decreases-loop-line
decreases-loop-line l = length l.text - l.from
