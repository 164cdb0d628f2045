use Rattle.std.proofs.lemmas.Result.{err_from_is_err_and}
use Rattle.nsc_model.specs.Frames.{number_at, frame_after, frame_at}
use Rattle.nsc_replay.proofs.Steps.{halts_first, reads_then}
use Rattle.nsc_replay.proofs.reading.read_frame.Goals as goal

pub returns-in_err-first-clause-reads : goal.returns-in_err-first-clause-reads
unfolding frame_at
returns-in_err-first-clause-reads g c =
    let p = err_from_is_err_and c.from_residual.result c.from_residual.ensures.1 in
    rw (p.1, p.2) (halts_first (number_at 1) frame_after _ _ c.in_err-first.field-0.0 c.in_err-first.ensures.reads)

pub returns-clause-reads : goal.returns-clause-reads
unfolding frame_at
returns-clause-reads g c =
    reads_then _ (number_at 1) frame_after (g.R.Source.left c.args.input.now) (g.R.Source.left c.byte.new.input) (g.R.Source.left c.after_first.new.input) c.in_ok-first.first c.after_first.result c.in_ok-first.ensures.reads c.after_first.ensures.reads
