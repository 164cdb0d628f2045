use Rattle.std.proofs.lemmas.Result.{err_from_is_err_and}
use Rattle.nsc_model.specs.Frames.{number_at, held_at, present_at}
use Rattle.nsc_replay.proofs.Steps.{halts_first, reads_then}
use Rattle.nsc_replay.proofs.pieces.present.Goals as goal

pub returns-in_err-size-clause-reads : goal.returns-in_err-size-clause-reads
unfolding present_at
returns-in_err-size-clause-reads g c =
    let p = err_from_is_err_and c.from_residual.result c.from_residual.ensures.1 in
    rw (p.1, p.2) (halts_first (number_at 4) held_at _ _ c.in_err-size.field-0.0 c.in_err-size.ensures.reads)

pub returns-clause-reads : goal.returns-clause-reads
unfolding present_at
returns-clause-reads g c =
    reads_then _ (number_at 4) held_at (g.R.Source.left c.args.input.now) (g.R.Source.left c.word.new.input) (g.R.Source.left c.held.new.input) c.in_ok-size.size c.held.result c.in_ok-size.ensures.reads c.held.ensures.reads
