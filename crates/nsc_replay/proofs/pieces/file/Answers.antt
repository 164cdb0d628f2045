use Rattle.std.proofs.lemmas.Result.{err_from_is_err_and}
use Rattle.nsc_model.specs.Kinds.{file_numbered}
use Rattle.nsc_model.specs.Frames.{number_at, set_file, file_at}
use Rattle.nsc_replay.proofs.Steps.{halts_first, reads_then}
use Rattle.nsc_replay.proofs.pieces.file.Goals as goal

pub returns-in_err-number-clause-reads : goal.returns-in_err-number-clause-reads
unfolding file_at
returns-in_err-number-clause-reads g c =
    let p = err_from_is_err_and c.from_residual.result c.from_residual.ensures.1 in
    rw (p.1, p.2) (halts_first (number_at 1) (λ n. set_file (file_numbered n)) _ _ c.in_err-number.field-0.0 c.in_err-number.ensures.reads)

pub returns-clause-reads : goal.returns-clause-reads
unfolding file_at
returns-clause-reads g c =
    reads_then _ (number_at 1) (λ n. set_file (file_numbered n)) (g.R.Source.left c.args.input.now) (g.R.Source.left c.byte.new.input) (g.R.Source.left c.numbered_file.new.input) c.in_ok-number.number c.numbered_file.result c.in_ok-number.ensures.reads c.numbered_file.ensures.reads
