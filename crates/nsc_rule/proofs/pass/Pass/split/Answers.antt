use Rattle.std.proofs.Common.{rules}
use Rattle.nsc_rule.proofs.Moves.{copies}
use Rattle.nsc_rule.proofs.pass.Pass.split.Goals as goal

pub split_seat-requires : goal.split_seat-requires
split_seat-requires c = (search rules, search rules, copies _ _ _)
