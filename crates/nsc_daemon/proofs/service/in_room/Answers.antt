use denote.Param.Send.{sendable}
use Rattle.std.proofs.Crossing.{crosses}
use Rattle.nsc_index.proofs.Crossing.{ready-send, ready-sync}
use Rattle.nsc_database.proofs.Crossing.{database-send, database-sync, pass-send}
use Rattle.nsc_daemon.proofs.service.in_room.Goals as goal

pub serve-requires-send-S : goal.serve-requires-send-S
serve-requires-send-S g c κs within = search (sendable, crosses, database-send, ready-send, ready-sync, c.type_bounds) depth 40

pub serve-requires-send-S-Pass : goal.serve-requires-send-S-Pass
serve-requires-send-S-Pass g c κs within = search (sendable, crosses, pass-send, c.type_bounds) depth 40

pub serve-requires-sync-S : goal.serve-requires-sync-S
serve-requires-sync-S g c κs within = search (sendable, crosses, database-sync, ready-send, ready-sync, c.type_bounds) depth 40
