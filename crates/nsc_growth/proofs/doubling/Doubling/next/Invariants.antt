use Rattle.std.proofs.Common.{◌-◌}
use Rattle.nsc_growth.proofs.Doublings.{Tried}
use Rattle.nsc_growth.proofs.doubling.Doubling.next.Given as goal

abbrev pub invariant-doublings : goal.invariant-doublings
invariant-doublings l = Tried l.fn.layout l.wanted l.larger

abbrev pub decreases-doublings : goal.decreases-doublings
decreases-doublings l = 33554432 - l.larger.arena
