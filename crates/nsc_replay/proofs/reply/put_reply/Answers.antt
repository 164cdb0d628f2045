use Rattle.std.proofs.Common.{ℕ, List, ◌++◌, subst}
use Rattle.std.proofs.lemmas.Result.{err_from_is_err_and}
use Rattle.nsc_outside.specs.Stream.{GrowsByFront}
use Rattle.nsc_replay.proofs.Outputs.{front_more}
use Rattle.nsc_replay.proofs.reply.put_reply.Goals as goal

pub returns-in_err-write_all-clause-front : goal.returns-in_err-write_all-clause-front
returns-in_err-write_all-clause-front g c =
    let p = err_from_is_err_and c.from_residual.result c.from_residual.ensures.1 in
    rw p.1 (subst (λ (xs : List ℕ). GrowsByFront (g.K.Sink.taken c.args.output.now) (g.K.Sink.taken c.write_all.new.output) (xs ++ c.args.reply.now)) c.write_u32.ensures
    (front_more (g.K.Sink.taken c.args.output.now) (g.K.Sink.taken c.write_all.new.output) c.write_u32.new.buf c.args.reply.now c.in_err-write_all.ensures.front))
