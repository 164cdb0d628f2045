use Rattle.std.proofs.Common.{◌≡◌, ◌+◌, ◌-◌, ◌≤◌, length, drop}
use Rattle.nsc_base.specs.Text.{lines_of}
use Rattle.nsc_daemonconf.specs.Lines.{conf_from, conf_of}
use Rattle.nsc_model.specs.Sizes.{SizesFit}
use Rattle.nsc_daemonconf.proofs.lines.read_conf.Given as goal

abbrev pub invariant-loop-line : goal.invariant-loop-line
invariant-loop-line l = record {
  inside : l.from ≤ length l.text;
  few : l.number ≤ l.from + 1;
  sizes : SizesFit l.conf;
  left : conf_from l.number l.conf (lines_of (drop l.from l.text)) ≡ conf_of l.text;
}

abbrev pub decreases-loop-line : goal.decreases-loop-line
decreases-loop-line l = length l.text - l.from
