-- Seats and tables that were left may go to other threads.
use denote.Param.Send.{IsSend, sendable}
use Rattle.std.proofs.Crossing as heap
use Rattle.std.proofs.Crossing.{crosses}
use Rattle.nsc_rule.proofs.Crossing.{map-send, pass-send, pen-send}
use Rattle.nsc_writer.specs.contracts.former.Former as former
use Rattle.nsc_seats.specs.contracts.seat.Seat as seat
use Rattle.nsc_seats.specs.contracts.left.Left as left
use Rattle.nsc_seats.specs.contracts.seats.Seats as seats

former-send : IsSend former.the_row
former-send = search (sendable, crosses, map-send, pen-send, pass-send) depth 30

seat-send : IsSend seat.the_row
seat-send = search (sendable, crosses, map-send, pass-send) depth 30

pub left-send : IsSend left.the_row
left-send = search (sendable, crosses, former-send, heap.send, heap.frees) depth 30

pub seats-send : IsSend seats.the_row
seats-send = search (sendable, crosses, seat-send, heap.send, heap.frees) depth 30
