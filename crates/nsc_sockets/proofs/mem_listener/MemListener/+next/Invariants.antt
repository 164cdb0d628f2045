use Rattle.std.proofs.Common.{length}
use Rattle.nsc_sockets.proofs.mem_listener.MemListener.+next.Given as goal

abbrev pub decreases-next : goal.decreases-next
decreases-next l = length l.self.now.arrivals
