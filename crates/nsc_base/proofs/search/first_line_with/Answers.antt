use Rattle.std.proofs.Common.{None, Some}
use Rattle.nsc_base.specs.Found.{here, later, nowhere, read}
use Rattle.nsc_base.proofs.LineStarts.{first_after}
use Rattle.nsc_base.proofs.search.first_line_with.Goals as goal

pub returns-in-Some-entry_of : goal.returns-in-Some-entry_of
returns-in-Some-entry_of g c = c.loop-line.invariant.left _ (first_after c.args.case c.args.needle.now c.args.text.now (goal.F-post g c.args.entry_of) _ _ (Some c.in-Some-entry_of.entry) c.in-Some.ensures.passes (here c.in-Some.line.span _ _ (read _ c.in-Some-entry_of.ensures)))

pub loop-line-preserved : goal.loop-line-preserved
loop-line-preserved g c = record {
  inside = c.in-Some.ensures.next_ends;
  left = λ found rest. c.loop-line.invariant.left found (first_after c.args.case c.args.needle.now c.args.text.now (goal.F-post g c.args.entry_of) _ _ found c.in-Some.ensures.passes (later c.in-Some.line.span _ found (read None c.in_default-entry_of.ensures) rest));
}

pub returns : goal.returns
returns g c = c.loop-line.invariant.left None (first_after c.args.case c.args.needle.now c.args.text.now (goal.F-post g c.args.entry_of) _ _ None c.in_default.ensures nowhere)
