use Rattle.std.proofs.lemmas.Result.{err_from_is_err_and}
use Rattle.nsc_model.specs.Frames.{number_at, presence_at, bytes_at}
use Rattle.nsc_replay.proofs.Steps.{halts_first, reads_then}
use Rattle.nsc_replay.proofs.pieces.becomes.Goals as goal

pub returns-in_err-presence-clause-reads : goal.returns-in_err-presence-clause-reads
unfolding bytes_at
returns-in_err-presence-clause-reads g c =
    let p = err_from_is_err_and c.from_residual.result c.from_residual.ensures.1 in
    rw (p.1, p.2) (halts_first (number_at 1) presence_at _ _ c.in_err-presence.field-0.0 c.in_err-presence.ensures.reads)

pub returns-clause-reads : goal.returns-clause-reads
unfolding bytes_at
returns-clause-reads g c =
    reads_then _ (number_at 1) presence_at (g.R.Source.left c.args.input.now) (g.R.Source.left c.byte.new.input) (g.R.Source.left c.by_presence.new.input) c.in_ok-presence.presence c.by_presence.result c.in_ok-presence.ensures.reads c.by_presence.ensures.reads
