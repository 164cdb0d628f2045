use Rattle.std.proofs.Common.{rules}
use Rattle.nsc_rule.proofs.Moves.{shows}
use Rattle.nsc_rule.proofs.pass.Pass.take.Goals as goal

pub join_seat-requires : goal.join_seat-requires
join_seat-requires c = (search rules, search rules, search rules, search rules, shows _ _ _ _ _)
