use Rattle.std.proofs.Common.{rules}
use Rattle.nsc_rule.proofs.Moves.{reads_as}
use Rattle.nsc_rule.proofs.pen.Pen.load.Goals as goal

pub load-requires : goal.load-requires
load-requires c = (search rules, search rules, reads_as _ _ _ _ _ c.self.invariant.0)
