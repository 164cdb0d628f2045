use Rattle.std.proofs.Common.{arith}
use Rattle.std.proofs.lemmas.Result.{err_from_is_err_and}
use Rattle.nsc_replay.proofs.Firsts.{request_gets, request_halts, set_file_gets, set_file_halts, time_gets, time_halts, invalidate_gets, invalidate_halts, end_gets, none_of_them}
use Rattle.nsc_replay.proofs.reading.after_first.Goals as goal

pub returns-in_err-input-in-81-clause-reads : goal.returns-in_err-input-in-81-clause-reads
returns-in_err-input-in-81-clause-reads g c =
    let p = err_from_is_err_and c.from_residual.result c.from_residual.ensures.1 in
    rw (p.1, p.2) (request_halts c.args.first (g.R.Source.left c.args.input.now) (g.R.Source.left c.request.new.input) c.in_err-input-in-81.field-0.0 (omega arith) c.in_err-input-in-81.ensures.reads)

pub returns-in_err-file-in-70-clause-reads : goal.returns-in_err-file-in-70-clause-reads
returns-in_err-file-in-70-clause-reads g c =
    let p = err_from_is_err_and c.from_residual-in_err-file-in-70.result c.from_residual-in_err-file-in-70.ensures.1 in
    rw (p.1, p.2) (set_file_halts c.args.first (g.R.Source.left c.args.input.now) (g.R.Source.left c.file.new.input) c.in_err-file-in-70.field-0.0 (omega arith) c.in_err-file-in-70.ensures.reads)

pub returns-in_err-moment-in-84-clause-reads : goal.returns-in_err-moment-in-84-clause-reads
returns-in_err-moment-in-84-clause-reads g c =
    let p = err_from_is_err_and c.from_residual-in_err-moment-in-84.result c.from_residual-in_err-moment-in-84.ensures.1 in
    rw (p.1, p.2) (time_halts c.args.first (g.R.Source.left c.args.input.now) (g.R.Source.left c.long.new.input) c.in_err-moment-in-84.field-0.0 (omega arith) c.in_err-moment-in-84.ensures.reads)

pub returns-in_err-db-in-73-clause-reads : goal.returns-in_err-db-in-73-clause-reads
returns-in_err-db-in-73-clause-reads g c =
    let p = err_from_is_err_and c.from_residual-in_err-db-in-73.result c.from_residual-in_err-db-in-73.ensures.1 in
    rw (p.1, p.2) (invalidate_halts c.args.first (g.R.Source.left c.args.input.now) (g.R.Source.left c.database.new.input) c.in_err-db-in-73.field-0.0 (omega arith) c.in_err-db-in-73.ensures.reads)

pub returns-in_ok-input-in-81-clause-reads : goal.returns-in_ok-input-in-81-clause-reads
returns-in_ok-input-in-81-clause-reads g c = request_gets c.args.first (g.R.Source.left c.args.input.now) (g.R.Source.left c.request.new.input) _ (omega arith) c.in_ok-input-in-81.ensures.reads

pub returns-in_ok-file-in-70-clause-reads : goal.returns-in_ok-file-in-70-clause-reads
returns-in_ok-file-in-70-clause-reads g c = set_file_gets c.args.first (g.R.Source.left c.args.input.now) (g.R.Source.left c.file.new.input) _ (omega arith) c.in_ok-file-in-70.ensures.reads

pub returns-in_ok-moment-in-84-clause-reads : goal.returns-in_ok-moment-in-84-clause-reads
returns-in_ok-moment-in-84-clause-reads g c = time_gets c.args.first (g.R.Source.left c.args.input.now) (g.R.Source.left c.long.new.input) _ (omega arith) c.in_ok-moment-in-84.ensures.reads

pub returns-in_ok-db-in-73-clause-reads : goal.returns-in_ok-db-in-73-clause-reads
returns-in_ok-db-in-73-clause-reads g c = invalidate_gets c.args.first (g.R.Source.left c.args.input.now) (g.R.Source.left c.database.new.input) _ (omega arith) c.in_ok-db-in-73.ensures.reads

pub returns-in-69-clause-reads : goal.returns-in-69-clause-reads
returns-in-69-clause-reads g c = end_gets c.args.first (g.R.Source.left c.args.input.now) (omega arith)

pub returns-in_default-clause-reads : goal.returns-in_default-clause-reads
returns-in_default-clause-reads g c = none_of_them c.args.first (g.R.Source.left c.args.input.now) (omega arith) (omega arith) (omega arith) (omega arith) (omega arith)
