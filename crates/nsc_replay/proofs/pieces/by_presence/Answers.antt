use Rattle.std.proofs.lemmas.Result.{err_from_is_err_and}
use Rattle.std.proofs.Common.{arith}
use Rattle.nsc_replay.proofs.Steps.{presence_none, presence_some, presence_halts, presence_bad}
use Rattle.nsc_replay.proofs.pieces.by_presence.Goals as goal

pub returns-in_err-present-in-1-clause-reads : goal.returns-in_err-present-in-1-clause-reads
returns-in_err-present-in-1-clause-reads g c =
    let p = err_from_is_err_and c.from_residual.result c.from_residual.ensures.1 in
    rw (p.1, p.2) (presence_halts c.args.presence (g.R.Source.left c.args.input.now) (g.R.Source.left c.present.new.input) c.in_err-present-in-1.field-0.0 (omega arith) c.in_err-present-in-1.ensures.reads)

pub returns-in-0-clause-reads : goal.returns-in-0-clause-reads
returns-in-0-clause-reads g c = presence_none c.args.presence (g.R.Source.left c.args.input.now) (omega arith)

pub returns-in_ok-present-in-1-clause-reads : goal.returns-in_ok-present-in-1-clause-reads
returns-in_ok-present-in-1-clause-reads g c = presence_some c.args.presence (g.R.Source.left c.args.input.now) (g.R.Source.left c.present.new.input) _ (omega arith) c.in_ok-present-in-1.ensures.reads

pub returns-in_default-clause-reads : goal.returns-in_default-clause-reads
returns-in_default-clause-reads g c = presence_bad c.args.presence (g.R.Source.left c.args.input.now) (omega arith) (omega arith)
