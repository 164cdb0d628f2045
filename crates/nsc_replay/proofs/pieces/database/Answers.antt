use Rattle.std.proofs.Common.{sym}
use Rattle.std.proofs.lemmas.Result.{err_from_is_err_and}
use Rattle.nsc_model.specs.Kinds.{db_numbered}
use Rattle.nsc_model.specs.Frames.{number_at, known_db, invalidate_at}
use Rattle.nsc_replay.specs.declared.halt.Halt.TheVariants as halts
use Rattle.nsc_replay.proofs.Steps.{halts_first, halts_then, gets_then, cleared_some, cleared_none}
use Rattle.nsc_replay.proofs.pieces.database.Goals as goal

pub returns-in_err-number-clause-reads : goal.returns-in_err-number-clause-reads
unfolding invalidate_at
returns-in_err-number-clause-reads g c =
    let p = err_from_is_err_and c.from_residual.result c.from_residual.ensures.1 in
    rw (p.1, p.2) (halts_first (number_at 1) (λ n. known_db (db_numbered n)) _ _ c.in_err-number.field-0.0 c.in_err-number.ensures.reads)

pub returns-in-Some-clause-reads : goal.returns-in-Some-clause-reads
unfolding invalidate_at
returns-in-Some-clause-reads g c =
    gets_then (number_at 1) (λ n. known_db (db_numbered n)) (g.R.Source.left c.args.input.now) (g.R.Source.left c.byte.new.input) (g.R.Source.left c.byte.new.input) c.in_ok-number.number c.in-Some.db
    c.in_ok-number.ensures.reads (cleared_some (db_numbered c.in_ok-number.number) (g.R.Source.left c.byte.new.input) c.in-Some.db (sym c.in-Some.ensures))

pub returns-in-None-clause-reads : goal.returns-in-None-clause-reads
unfolding invalidate_at
returns-in-None-clause-reads g c =
    halts_then (number_at 1) (λ n. known_db (db_numbered n)) (g.R.Source.left c.args.input.now) (g.R.Source.left c.byte.new.input) (g.R.Source.left c.byte.new.input) c.in_ok-number.number halts.NoFrame
    c.in_ok-number.ensures.reads (cleared_none (db_numbered c.in_ok-number.number) (g.R.Source.left c.byte.new.input) (sym c.in-None.ensures))
