use Rattle.std.proofs.Common.{◌≡◌, ℕ, ltb, true, false, arith, subst, length, take}
use Rattle.std.proofs.lemmas.Bool.{lt-ltb, le-ltb}
use Rattle.std.proofs.lemmas.List.{length-take-le}
use Rattle.std.proofs.lemmas.Result.{err_from_is_err_and}
use Rattle.nsc_model.specs.Frames.{NoFrame, chunk, input_limit, input_at}
use Rattle.nsc_replay.specs.Reading.{Halts, Gets}
use Rattle.nsc_replay.proofs.Steps.{guard_refuses, guard_halts, guard_gets}
use Rattle.nsc_replay.proofs.pieces.input_of.Goals as goal

pub returns-then-size-gt-INPUT_LIMIT-clause-reads : goal.returns-then-size-gt-INPUT_LIMIT-clause-reads
unfolding input_at
returns-then-size-gt-INPUT_LIMIT-clause-reads g c =
    let above : ltb input_limit c.args.size ≡ true = lt-ltb _ _ (omega arith) in
    guard_refuses (ltb input_limit c.args.size) (chunk c.args.size) (g.R.Source.left c.args.input.now) above

pub returns-in_err-fill_piece-clause-reads : goal.returns-in_err-fill_piece-clause-reads
unfolding input_at
returns-in_err-fill_piece-clause-reads g c =
    let p = err_from_is_err_and c.from_residual.result c.from_residual.ensures.1 in
    let fits : ltb input_limit c.args.size ≡ false = le-ltb _ _ (omega arith) in
    let len : length (take c.args.size c.args.room.now) ≡ c.args.size = length-take-le c.args.size c.args.room.now (omega arith) in
    rw (p.1, p.2) (guard_halts (ltb input_limit c.args.size) NoFrame (chunk c.args.size) (g.R.Source.left c.args.input.now) (g.R.Source.left c.fill_piece.new.input) c.in_err-fill_piece.field-0.0 fits
    (subst (λ (n : ℕ). Halts (chunk n) (g.R.Source.left c.args.input.now) (g.R.Source.left c.fill_piece.new.input) c.in_err-fill_piece.field-0.0) len c.in_err-fill_piece.ensures.reads))

pub returns-clause-reads : goal.returns-clause-reads
unfolding input_at
returns-clause-reads g c =
    let fits : ltb input_limit c.args.size ≡ false = le-ltb _ _ (omega arith) in
    let len : length (take c.args.size c.args.room.now) ≡ c.args.size = length-take-le c.args.size c.args.room.now (omega arith) in
    guard_gets (ltb input_limit c.args.size) NoFrame (chunk c.args.size) (g.R.Source.left c.args.input.now) (g.R.Source.left c.fill_piece.new.input) c.fill_piece.new.piece fits
    (subst (λ (n : ℕ). Gets (chunk n) (g.R.Source.left c.args.input.now) (g.R.Source.left c.fill_piece.new.input) c.fill_piece.new.piece) len c.in_ok-fill_piece.ensures.reads)
