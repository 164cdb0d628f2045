use Rattle.nsc_client.proofs.Answering.{none_asked, one_asked}
use Rattle.nsc_client.proofs.answers.answer_to.Goals as goal

pub returns-in-Bad-clause-answered : goal.returns-in-Bad-clause-answered
returns-in-Bad-clause-answered g c = rw c.in-Bad.is (none_asked g.S.Store c.args.passes.now)

pub returns-in_ok-reply-in-One-clause-answered : goal.returns-in_ok-reply-in-One-clause-answered
returns-in_ok-reply-in-One-clause-answered g c =
    let given = rw c.as_slice-key.ensures at c.in_ok-reply-in-One.ensures.given in
    rw c.in-One.is (one_asked g.S.Store c.args.passes.now c.reply_to.new.passes (record { kind = c.in-One.request.kind; key = c.in-One.request.key }) c.in_ok-reply-in-One.reply given)
