use Rattle.std.proofs.Common.{rules}
use Rattle.nsc_rule.proofs.Moves.{moves_as}
use Rattle.nsc_rule.proofs.pen.put.Goals as goal

pub store-requires : goal.store-requires
store-requires g c = (search rules, search rules, moves_as _ _ _ _ _ _ _ c.requires.pen c.requires.words c.requires.sound c.requires.later)
