use denote.Param.Send.{sendable}
use Rattle.std.proofs.Crossing.{crosses}
use Rattle.nsc_outside.proofs.Crossing.{held_files-send}
use Rattle.nsc_answer.proofs.Crossing.{ready-send, ready-sync}
use Rattle.nsc_database.proofs.Crossing.{database-sync, pass-send}
use Rattle.nsc_loads.proofs.opening.done_in.Goals as goal

pub run-requires-send-S-Pass : goal.run-requires-send-S-Pass
run-requires-send-S-Pass g c κs within = search (sendable, crosses, pass-send, held_files-send, c.type_bounds) depth 40

pub run-requires-sync-S : goal.run-requires-sync-S
run-requires-sync-S g c κs within = search (sendable, crosses, database-sync, held_files-send, ready-send, ready-sync, c.type_bounds) depth 40
