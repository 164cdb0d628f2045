use Rattle.std.proofs.Common.{◌+◌, drop, flat_map, map, ap, sym, ◌∙◌}
use Rattle.std.proofs.lemmas.List.{at_drop_all}
use Rattle.nsc_base.specs.Text.{part}
use Rattle.nsc_model.specs.Compat.{sayings}
use Rattle.nsc_compat.specs.Lines.{looked_or}
use Rattle.nsc_compat.proofs.Walked.{line_next}
use Rattle.nsc_compat.proofs.lines.scan_lines.Goals as goal

pub returns-in-Some : goal.returns-in-Some
returns-in-Some g c =
    let comes = g.L.LineScan.comes c.args.scan.now in
    let text = c.args.text.now in
    let later = flat_map sayings (map (part text) (drop (c.loop-line.line-index + 1) c.args.lines.now)) in
    sym (ap (λ outcome. looked_or outcome (comes c.take.new.seen later)) c.in-Some.is) ∙ c.in_ok-outcome.ensures later
    ∙ line_next (λ lines. comes c.loop-line.seen (flat_map sayings lines)) text c.args.lines.now c.loop-line.line-index c.line-item.result c.loop-line-test.true c.line-item.is ∙ c.loop-line.invariant

pub loop-line-preserved : goal.loop-line-preserved
loop-line-preserved g c =
    let comes = g.L.LineScan.comes c.args.scan.now in
    let text = c.args.text.now in
    let later = flat_map sayings (map (part text) (drop (c.loop-line.line-index + 1) c.args.lines.now)) in
    sym (ap (λ outcome. looked_or outcome (comes c.take.new.seen later)) c.in_default.is) ∙ c.in_ok-outcome.ensures later
    ∙ line_next (λ lines. comes c.loop-line.seen (flat_map sayings lines)) text c.args.lines.now c.loop-line.line-index c.line-item.result c.loop-line-test.true c.line-item.is ∙ c.loop-line.invariant

pub returns : goal.returns
returns g c =
    let text = c.args.text.now in
    let comes = g.L.LineScan.comes c.args.scan.now c.loop-line.seen in
    c.end.ensures ∙ sym (at_drop_all (λ ls. comes (flat_map sayings (map (part text) ls))) c.args.lines.now c.loop-line.line-index c.loop-line-test.false) ∙ c.loop-line.invariant
