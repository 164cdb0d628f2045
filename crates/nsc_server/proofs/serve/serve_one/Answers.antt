use Rattle.std.proofs.Common.{◌≡◌, None, ap, ◌∙◌}
use Rattle.nsc_outside.specs.StreamAt.{stream_in}
use Rattle.nsc_model.specs.Wire.{request_of}
use Rattle.nsc_wire.specs.Request.{asked_by}
use Rattle.nsc_server.specs.Admitted.{wire_of}
use Rattle.nsc_server.specs.Outcomes.{side}
use Rattle.nsc_server.specs.Passes.{settings_of}
use Rattle.nsc_server.specs.Requests.{closing_of}
use Rattle.nsc_server.proofs.Complete.{serves_failed, serves_admitted}
use Rattle.nsc_server.proofs.serve.serve_one.Goals as goal

pub returns-in-Err-clause-served : goal.returns-in-Err-clause-served
returns-in-Err-clause-served g c =
    serves_failed (settings_of g.S.Store c.args.stores.now) c.args.scopes c.args.now c.args.role (stream_in g.R.Source c.args.conn_in.now) (stream_in g.R.Source c.read.new.input)
    (side g.S.Store g.K.Sink c.args.passes.now c.args.conn_out.now) c.in-Err.ensures.short c.in-Err.ensures.failed

pub returns-in-Ok-admit-clause-served : goal.returns-in-Ok-admit-clause-served
returns-in-Ok-admit-clause-served g c =
    let admitted = c.in-Ok-admit.admitted in
    let asked : asked_by c.bytes.result.now (wire_of admitted) ≡ request_of c.read.new.self =
    ap (λ b. asked_by b (wire_of admitted)) c.bytes.ensures ∙ ap (asked_by c.read.new.self) c.in-Ok-admit.ensures.admitted.same ∙ c.in-Ok.ensures.asked in
    let open_to : closing_of c.args.scopes c.args.role (asked_by c.bytes.result.now (wire_of admitted)) ≡ None =
    ap (λ w. closing_of c.args.scopes c.args.role (asked_by c.bytes.result.now w)) c.in-Ok-admit.ensures.admitted.same ∙ c.in-Ok-admit.ensures.admitted.open_to c.bytes.result.now in
    serves_admitted (settings_of g.S.Store c.args.stores.now) c.args.scopes c.args.now c.args.role (stream_in g.R.Source c.args.conn_in.now) (stream_in g.R.Source c.read.new.input)
    (side g.S.Store g.K.Sink c.args.passes.now c.args.conn_out.now) (side g.S.Store g.K.Sink c.answer.new.passes c.answer.new.conn_out) c.answer.result
    c.read.new.self (asked_by c.bytes.result.now (wire_of admitted)) asked c.in-Ok.ensures.moved c.in-Ok.ensures.needed c.in-Ok.ensures.calm open_to c.answer.ensures.others c.answer.ensures.answers
