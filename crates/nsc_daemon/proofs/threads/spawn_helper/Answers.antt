-- A helper may go to another thread.
use denote.Param.Send.{sendable}
use Rattle.std.proofs.Crossing.{crosses}
use Rattle.nsc_daemon.proofs.Crossing.{helping-send}
use Rattle.nsc_daemon.proofs.threads.spawn_helper.Goals as goal

pub spawn-requires-send-F : goal.spawn-requires-send-F
spawn-requires-send-F g c κs within = search (sendable, crosses, helping-send) depth 30
