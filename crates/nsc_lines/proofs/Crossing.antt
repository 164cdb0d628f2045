-- Handles on lines may go to other threads, and be shared by them.
use denote.RattleType.{RattleType}
use denote.Param.Send.{IsSend, IsSync, sendable}
use Rattle.std.proofs.Crossing.{crosses}
use Rattle.nsc_lines.specs.contracts.backlog.Backlog as backlog
use Rattle.nsc_lines.specs.contracts.lines.Shared as shared
use Rattle.nsc_lines.specs.contracts.lines.Lines as lines

backlog-send : IsSend backlog.the_row
backlog-send = search (sendable, crosses) depth 30

shared-send : IsSend shared.the_row
shared-send = search (sendable, crosses, backlog-send) depth 30

shared-sync : IsSync shared.the_row
shared-sync = search (sendable, crosses, backlog-send) depth 30

pub lines-send : (R : RattleType) → IsSend R → IsSend (lines.the_row R)
lines-send R system = search (sendable, crosses, shared-send, shared-sync) depth 30
