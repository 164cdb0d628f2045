use Rattle.std.proofs.Common.{subst, List, ℕ, Option}
use Rattle.nsc_outside.specs.Stream.{GrowsByFront}
use Rattle.nsc_model.specs.Replay.{turn_of, framed}
use Rattle.nsc_replay.specs.Frame.{said}
use Rattle.nsc_replay.specs.Turns.{GoesTo}
use Rattle.nsc_replay.proofs.Outputs.{cut_by_reply}
use Rattle.nsc_replay.proofs.rounds.serve.Goals as goal

pub returns-clause-ends : goal.returns-clause-ends
returns-clause-ends g c =
    let turn = turn_of c.args.machine.now.settings c.args.machine.now.state (said c.args.frame) in
    cut_by_reply turn c.turn.new.self.state (g.K.Sink.taken c.args.output.now) (g.K.Sink.taken c.put_reply.new.output) c.in-Some.reply
    (subst (λ (reply : Option (List ℕ)). GoesTo turn c.turn.new.self.state reply) c.in-Some.is c.in_ok-reply.ensures.turn)
    (subst (λ (reply : List ℕ). GrowsByFront (g.K.Sink.taken c.args.output.now) (g.K.Sink.taken c.put_reply.new.output) (framed reply)) c.as_slice.ensures c.in-Err.ensures.front)
