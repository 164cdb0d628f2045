-- Lists of closers may go to other threads, and be shared by them, if their jobs may go to other threads.
use denote.RattleType.{RattleType}
use denote.Param.Send.{IsSend, IsSync, sendable}
use Rattle.std.proofs.Crossing.{crosses}
use Rattle.nsc_closers.specs.contracts.queue.Queue as queue
use Rattle.nsc_closers.specs.contracts.threads.Shared as shared
use Rattle.nsc_closers.specs.contracts.closers.Closers as closers

queue-send : (T : RattleType) → IsSend T → IsSend (queue.the_row T)
queue-send T job = search (sendable, crosses) depth 30

shared-send : (T : RattleType) → IsSend T → IsSend (shared.the_row T)
shared-send T job = search (sendable, crosses, queue-send) depth 30

shared-sync : (T : RattleType) → IsSend T → IsSync (shared.the_row T)
shared-sync T job = search (sendable, crosses, queue-send) depth 30

pub closers-send : (T R : RattleType) → IsSend T → IsSend R → IsSend (closers.the_row T R)
closers-send T R job system = search (sendable, crosses, shared-send, shared-sync) depth 30

pub closers-sync : (T R : RattleType) → IsSend T → IsSync R → IsSync (closers.the_row T R)
closers-sync T R job system = search (sendable, crosses, shared-send, shared-sync) depth 30
