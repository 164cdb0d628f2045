use Rattle.std.proofs.Common.{◌≡◌}
use Rattle.nsc_daemon.specs.Ends.{GivesMore}
use Rattle.nsc_daemon.proofs.acceptor.accept_all.Given as goal

-- the listener gave connections, bound nothing more, and no call of it failed
abbrev pub invariant-loop : goal.invariant-loop
invariant-loop g l = GivesMore (g.N.Listener.given l.initial.net) (g.N.Listener.given l.net) × (g.N.Listener.faults l.net ≡ g.N.Listener.faults l.initial.net) × (g.N.Listener.bound l.net ≡ g.N.Listener.bound l.initial.net)
