use Rattle.std.proofs.Common.{◌∙◌}
use Rattle.memchr.specs.Find.{is_byte}
use Rattle.nsc_base.proofs.Zeros.{found_is_any}
use Rattle.nsc_base.proofs.cuts.has_zero_byte.Goals as goal

pub returns : goal.returns
returns c = c.is_some.ensures ∙ found_is_any (is_byte 0) c.args.bytes.now c.memchr.result c.memchr.ensures
