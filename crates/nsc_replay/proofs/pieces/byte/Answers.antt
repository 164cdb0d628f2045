use Rattle.std.proofs.Common.{◌≡◌, Ok, subst, get_or, arith}
use Rattle.std.proofs.lemmas.Result.{err_from_is_err_and}
use Rattle.byteorder.specs.Endian.{little_number}
use Rattle.nsc_model.specs.Frames.{chunk, number_at}
use Rattle.nsc_replay.specs.Reading.{Gets}
use Rattle.nsc_replay.proofs.Steps.{halts_first, gets_made}
use Rattle.nsc_replay.proofs.pieces.byte.Goals as goal

pub returns-in_err-fill_piece-clause-reads : goal.returns-in_err-fill_piece-clause-reads
unfolding number_at
returns-in_err-fill_piece-clause-reads g c =
    let p = err_from_is_err_and c.from_residual.result c.from_residual.ensures.1 in
    rw (p.1, p.2) (halts_first (chunk 1) (λ front bytes. Ok (little_number 1 front, bytes)) _ _ c.in_err-fill_piece.field-0.0 c.in_err-fill_piece.ensures.reads)

pub returns-clause-reads : goal.returns-clause-reads
unfolding number_at
returns-clause-reads g c =
    subst (λ n. Gets (number_at 1) (g.R.Source.left c.args.input.now) (g.R.Source.left c.fill_piece.new.input) n) (let e : little_number 1 c.fill_piece.new.piece ≡ get_or c.fill_piece.new.piece 0 0 = omega arith in e)
    (gets_made (chunk 1) (little_number 1) (g.R.Source.left c.args.input.now) (g.R.Source.left c.fill_piece.new.input) c.fill_piece.new.piece c.in_ok-fill_piece.ensures.reads)
