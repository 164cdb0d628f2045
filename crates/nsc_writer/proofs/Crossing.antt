-- A writer may go to another thread.
use denote.Param.Send.{IsSend, sendable}
use Rattle.std.proofs.Crossing.{crosses}
use Rattle.nsc_model.proofs.Crossing.{content-send, content-sync}
use Rattle.nsc_rule.proofs.Crossing.{map-send, pen-send}
use Rattle.nsc_shelf.specs.contracts.sheet.Sheet as sheet
use Rattle.nsc_writer.specs.contracts.writer.Writer as writer

sheet-send : IsSend sheet.the_row
sheet-send = search (sendable, crosses, map-send, pen-send) depth 30

pub writer-send : IsSend writer.the_row
writer-send = search (sendable, crosses, content-send, content-sync, sheet-send) depth 30
