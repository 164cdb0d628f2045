-- The daemon hands helpers of the system's listener to threads.
use denote.Param.Send.{sendable}
use Rattle.std.proofs.Crossing.{crosses}
use Rattle.nsc_sockets.proofs.Crossing.{unix_helper-send}
use Rattle.nscd.proofs.main.Goals as goal

pub run-exit-requires-send-N-Helper : goal.run-exit-requires-send-N-Helper
run-exit-requires-send-N-Helper g c κs = search (sendable, crosses, unix_helper-send) depth 40
