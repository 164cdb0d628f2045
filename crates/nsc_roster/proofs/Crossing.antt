-- A watch may go to other threads, and be shared by them.
use denote.Param.Send.{IsSend, IsSync, sendable}
use Rattle.std.proofs.Crossing.{crosses}
use Rattle.nsc_roster.specs.contracts.watch.Watch as watch

pub watch-send : IsSend watch.the_row
watch-send = search (sendable, crosses) depth 30

pub watch-sync : IsSync watch.the_row
watch-sync = search (sendable, crosses) depth 30
