-- Maps, pens and passes may go to other threads, and maps may be shared.
use denote.Builtin.{unit}
use denote.RattleType.{RattleType}
use denote.Param.Send.{IsSend, IsSync, sendable}
use Rattle.std.proofs.Crossing as heap
use Rattle.std.proofs.Crossing.{crosses}
use Rattle.std.specs.contracts.alloc.Global as Heap
use Rattle.std.specs.contracts.prelude.GlobalAllocator.TheImpl as memory
use Rattle.atomic_table.specs.contracts.owned.Table as table
use Rattle.atomic_table.proofs.shared.Seat.TheSendSync as seats
use Rattle.atomic_table.proofs.shared.Shared.TheSendSync as shareds
use Rattle.atomic_table.proofs.send_lease.SendLease.TheSendSync as leases
use Rattle.nsc_rule.specs.contracts.view.About as about
use Rattle.nsc_rule.specs.contracts.view.View as view
use Rattle.nsc_rule.specs.contracts.plays.WordRule as rule
use Rattle.nsc_rule.specs.contracts.plays.WordRuleTableRuleUnitViewAbout.TheImpl as ruled
use Rattle.nsc_rule.specs.contracts.pass.Pass as pass
use Rattle.nsc_rule.specs.contracts.pen.Pen as pen
use Rattle.nsc_rule.specs.contracts.map.Map as map

pub pass-send : IsSend pass.the_row
pass-send = search (sendable, crosses, seats.the_send) depth 30

pub pen-send : IsSend pen.the_row
pen-send = search (sendable, crosses, seats.the_send) depth 30

abbrev words : RattleType
words = table.the_row unit view.the_row about.the_row rule.the_row Heap.the_row ruled.ghosts memory.ghosts

words-send : IsSend words
words-send = search (sendable, crosses, shareds.the_send, leases.the_send, heap.send, heap.frees) depth 30

words-sync : IsSync words
words-sync = search (sendable, crosses, shareds.the_sync, leases.the_sync, heap.send, heap.sync, heap.frees) depth 30

pub map-send : IsSend map.the_row
map-send = search (sendable, crosses, words-send, words-sync) depth 30

pub map-sync : IsSync map.the_row
map-sync = search (sendable, crosses, words-send, words-sync) depth 30
