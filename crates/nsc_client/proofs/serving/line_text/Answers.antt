use Rattle.std.proofs.Common.{subst}
use Rattle.nsc_client.specs.declared.line.LineAsks.{LineAsks}
use Rattle.nsc_client.specs.Replying.{IsAnswered}
use Rattle.nsc_client.proofs.Exchanges.{one_answered}
use Rattle.nsc_client.proofs.serving.line_text.Goals as goal

pub returns-in-Ok-answer_line-clause-answered : goal.returns-in-Ok-answer_line-clause-answered
returns-in-Ok-answer_line-clause-answered g c =
    let answered = subst (λ (asking : LineAsks). IsAnswered g.S.Store c.args.passes.now c.answer_to.new.passes asking c.in-Ok-answer_to.last) c.in-Ok.ensures.asks c.in-Ok-answer_to.ensures.answered in
    one_answered g.S.Store c.args.passes.now c.answer_to.new.passes c.args.line.now c.in-Ok-answer_line.text.items c.in-Ok-answer_to.last c.requires.fits answered c.in-Ok-answer_line.ensures
