use Rattle.nsc_base.proofs.LineStarts.{pass_all, pass_before, with_line}
use Rattle.nsc_base.proofs.search.line_with.Goals as goal

pub returns-in_err-at : goal.returns-in_err-at
returns-in_err-at c = rw c.from_residual.ensures (pass_all c.args.case c.args.needle.now c.args.text.now c.args.from c.requires c.in_err-at.ensures)

pub returns : goal.returns
returns c =
    with_line c.args.case c.args.needle.now c.args.text.now c.args.from c.line_start.result c.line_at.result c.line_start.ensures.no_earlier c.line_at.ensures.none c.line_at.ensures.line
    (pass_before c.args.case c.args.needle.now c.args.text.now c.args.from c.in_ok-at.field-0 c.line_start.result c.requires c.in_ok-at.ensures c.line_start.ensures.no_later c.line_start.ensures.lines)
