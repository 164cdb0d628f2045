use Rattle.std.proofs.Common.{rules}
use Rattle.nsc_outside.proofs.Flags.{looks}
use Rattle.nsc_outside.proofs.release.Release.is_set.Goals as goal

pub load-requires : goal.load-requires
load-requires c = (search rules, search rules, looks _ _ _ _)
