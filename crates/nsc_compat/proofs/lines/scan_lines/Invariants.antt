use Rattle.std.proofs.Common.{◌≡◌, drop, flat_map, map}
use Rattle.nsc_base.specs.Text.{part}
use Rattle.nsc_model.specs.Compat.{sayings}
use Rattle.nsc_compat.proofs.lines.scan_lines.Given as goal

-- the outcome of what the lines that are left say is that of what all of them say
abbrev pub invariant-loop-line : goal.invariant-loop-line
invariant-loop-line g l = g.L.LineScan.comes l.scan l.seen (flat_map sayings (map (part l.text) (drop l.line-index l.lines))) ≡ g.L.LineScan.comes l.scan l.fn.seen (flat_map sayings (map (part l.text) l.lines))
