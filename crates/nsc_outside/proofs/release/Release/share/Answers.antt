use Rattle.std.proofs.Common.{rules}
use Rattle.nsc_outside.proofs.Flags.{begins}
use Rattle.nsc_outside.proofs.release.Release.share.Goals as goal

pub load_new_seat-seat-requires : goal.load_new_seat-seat-requires
load_new_seat-seat-requires c = (search rules, begins _)
