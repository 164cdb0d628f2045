use Rattle.std.proofs.Common.{ℕ, refl, subst, ◌∙◌}
use Rattle.nsc_model.specs.Reads.{Rose}
use Rattle.nsc_daemon.proofs.Ends.{ends_by, goes_given, goes_same}
use Rattle.nsc_daemon.proofs.acceptor.accept_all.Goals as goal

pub loop-init : goal.loop-init
loop-init g c = (goes_same (g.N.Listener.given c.args.net.now), refl, refl)

pub returns-in_default-clause-stops : goal.returns-in_default-clause-stops
returns-in_default-clause-stops g c = subst (λ (n : ℕ). Rose n (g.N.Listener.faults c.accept.new.self)) c.loop.invariant.1 c.in_default.ensures.failed

pub returns-then-turn-clause-stops : goal.returns-then-turn-clause-stops
returns-then-turn-clause-stops g c = (ends_by g.N.In.Source.left (g.N.Listener.given c.args.net.now) (g.N.Listener.given c.loop.net) (g.N.Listener.given c.accept.new.self) c.in-Ok.accepted c.loop.invariant.0 c.in-Ok.ensures.gives c.if-turn.ensures.told, c.in-Ok.ensures.calm ∙ c.loop.invariant.1)

pub loop-preserved : goal.loop-preserved
loop-preserved g c = (
  goes_given g.N.In.Source.left (g.N.Listener.given c.args.net.now) (g.N.Listener.given c.loop.net) (g.N.Listener.given c.accept.new.self) c.in-Ok.accepted c.loop.invariant.0 c.in-Ok.ensures.gives,
  c.in-Ok.ensures.calm ∙ c.loop.invariant.1,
  c.in-Ok.ensures.bound ∙ c.loop.invariant.2,
)
