use Rattle.std.proofs.Common.{rules}
use Rattle.nsc_rule.proofs.Moves.{copies}
use Rattle.nsc_rule.proofs.pen.Pen.pass.Goals as goal

pub split_seat-requires : goal.split_seat-requires
split_seat-requires c = (search rules, search rules, copies _ _ _)
