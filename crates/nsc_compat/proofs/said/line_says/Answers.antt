use Rattle.std.proofs.Common.{◌∙◌, sym}
use Rattle.nsc_base.specs.Text.{part}
use Rattle.nsc_compat.proofs.Sayings.{said_after}
use Rattle.nsc_compat.proofs.said.line_says.Goals as goal

pub returns : goal.returns
returns c = c.black_says.ensures (part c.args.text.now c.args.line) ∙ said_after (part c.args.text.now c.args.line) _ _ c.of-bytes.ensures.bytes (sym c.if-has_zero_byte.ensures) c.trim_front.ensures.rest
