use Rattle.std.proofs.Common.{sym, ap, ◌∙◌}
use Rattle.nsc_wire.specs.Request.{asked_by}
use Rattle.nsc_wire.proofs.Heads.{short_size, short_wire}
use Rattle.nsc_wire.proofs.head.is_settled.Goals as goal

pub returns-in-Short-clause-short : goal.returns-in-Short-clause-short
returns-in-Short-clause-short c = short_size c.args.bytes.now c.in-Short.have (sym c.read_request.ensures.asked ∙ ap (asked_by c.args.bytes.now) c.in-Short.is)

pub returns-in_default-clause-whole : goal.returns-in_default-clause-whole
returns-in_default-clause-whole c = λ have is.
    let s = short_wire c.args.bytes.now c.read_request.result have (c.read_request.ensures.asked ∙ is) in
    c.in_default.not-Short s.0 s.1
