-- Flags, and sets of files in memory, may go to other threads.
use denote.RattleType.{RattleType}
use denote.Param.Send.{IsSend, sendable}
use Rattle.std.proofs.Crossing as heap
use Rattle.std.proofs.Crossing.{crosses}
use Rattle.std.specs.declared.clone.Clone as clone
use Rattle.atomic_table.proofs.shared.Seat.TheSendSync as seats
use Rattle.atomic_table.proofs.shared.Shared.TheSendSync as shareds
use Rattle.atomic_table.proofs.send_lease.SendLease.TheSendSync as leases
use Rattle.nsc_model.proofs.Crossing.{content-send, content-sync}
use Rattle.nsc_outside.specs.contracts.release.Release as release
use Rattle.nsc_outside.specs.contracts.numbers.Numbering as numbering
use Rattle.nsc_outside.specs.contracts.hold.Hold as hold
use Rattle.nsc_outside.specs.contracts.hold.Gate as gate
use Rattle.nsc_outside.specs.contracts.held_files.Told as told
use Rattle.nsc_outside.specs.contracts.held_files.HeldFiles as held_files

ruleset words = (seats.the_send, shareds.the_send, shareds.the_sync, leases.the_send, leases.the_sync, heap.send, heap.sync, heap.frees)

pub release-send : IsSend release.the_row
release-send = search (sendable, crosses, words) depth 30

numbering-send : IsSend numbering.the_row
numbering-send = search (sendable, crosses, words) depth 30

hold-send : IsSend hold.the_field.row
hold-send = search (sendable, crosses, release-send) depth 30

gate-send : IsSend gate.the_row
gate-send = search (sendable, crosses, hold-send, numbering-send) depth 30

told-send : IsSend told.the_row
told-send = search (sendable, crosses) depth 30

pub held_files-send : (R : RattleType) (c : clone.Ghosts R.Denot) → IsSend R → IsSend (held_files.the_row R c)
held_files-send R c clock = search (sendable, crosses, release-send, gate-send, told-send, content-send, content-sync) depth 30
