use denote.Param.Send.{sendable}
use Rattle.std.proofs.Crossing.{crosses}
use Rattle.nsc_outside.proofs.Crossing.{held_files-send}
use Rattle.nsc_daemon_trials.proofs.main.Goals as goal

pub run-exit-requires-send-F : goal.run-exit-requires-send-F
run-exit-requires-send-F g c κs = search (sendable, crosses, held_files-send) depth 40
