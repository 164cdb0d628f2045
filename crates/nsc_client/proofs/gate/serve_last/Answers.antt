use Rattle.std.proofs.Common.{[], ◌∷◌, subst}
use Rattle.nsc_outside.specs.StreamAt.{stream_out}
use Rattle.nsc_client.specs.Gathered.{GathersAnswers, IsBroken, IsStopped}
use Rattle.nsc_client.proofs.Gathering.{answer_stopped, if_err, on_ok, written_after}
use Rattle.nsc_client.proofs.gate.serve_last.Goals as goal

pub returns-clause-served : goal.returns-clause-served
returns-clause-served g c =
    let before = stream_out g.K.Sink c.args.conn_out.now in
    let mid = stream_out g.K.Sink c.serve_short.new.conn_out in
    let after = stream_out g.K.Sink c.flush.new.conn_out in
    let pending = c.serve_short.new.pending in
    let gathers = subst (λ (p : _). GathersAnswers g.S.Store c.args.passes.now c.serve_short.new.passes before mid p pending (c.args.line.now ∷ [])) c.requires.empty c.in_ok-serve_short.ensures.served in
    on_ok c.flush.result (λ w. written_after g.S.Store c.args.passes.now c.serve_short.new.passes before mid after [] pending (c.args.line.now ∷ []) w gathers) c.flush.ensures.written

pub returns-clause-stopped : goal.returns-clause-stopped
returns-clause-stopped g c =
    let before = stream_out g.K.Sink c.args.conn_out.now in
    let mid = stream_out g.K.Sink c.serve_short.new.conn_out in
    let after = stream_out g.K.Sink c.flush.new.conn_out in
    let pending = c.serve_short.new.pending in
    let gathers = subst (λ (p : _). GathersAnswers g.S.Store c.args.passes.now c.serve_short.new.passes before mid p pending (c.args.line.now ∷ [])) c.requires.empty c.in_ok-serve_short.ensures.served in
    if_err (IsBroken mid after pending []) (IsStopped g.S.Store c.args.stores.now c.args.passes.now c.serve_short.new.passes before after [] c.args.line.now) c.flush.result
    (λ by. answer_stopped g.S.Store c.args.stores.now c.args.passes.now c.serve_short.new.passes before mid after [] pending c.args.line.now by gathers) c.flush.ensures.broken
