use Rattle.std.proofs.lemmas.Result.{err_from_is_err_and}
use Rattle.nsc_model.specs.Frames.{number_at, input_at, request_at}
use Rattle.nsc_replay.proofs.Steps.{halts_first, reads_then}
use Rattle.nsc_replay.proofs.pieces.request.Goals as goal

pub returns-in_err-size-clause-reads : goal.returns-in_err-size-clause-reads
unfolding request_at
returns-in_err-size-clause-reads g c =
    let p = err_from_is_err_and c.from_residual.result c.from_residual.ensures.1 in
    rw (p.1, p.2) (halts_first (number_at 4) input_at _ _ c.in_err-size.field-0.0 c.in_err-size.ensures.reads)

pub returns-clause-reads : goal.returns-clause-reads
unfolding request_at
returns-clause-reads g c =
    reads_then _ (number_at 4) input_at (g.R.Source.left c.args.input.now) (g.R.Source.left c.word.new.input) (g.R.Source.left c.input_of.new.input) c.in_ok-size.size c.input_of.result c.in_ok-size.ensures.reads c.input_of.ensures.reads
