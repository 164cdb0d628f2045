use Rattle.std.proofs.Common.{sym, ◌∙◌}
use Rattle.nsc_client.proofs.Answering.{all_both_asked, first_asked, second_refused, sees_on}
use Rattle.nsc_client.proofs.answers.host_named.Goals as goal

pub returns-then-has_row-clause-answered : goal.returns-then-has_row-clause-answered
returns-then-has_row-clause-answered g c =
    first_asked g.S.Store c.args.passes.now c.reply_to.new.passes c.args.name.now c.in_ok-first.first c.in_ok-first.ensures.given (sym c.has_row.ensures ∙ c.if-has_row.true)

pub returns-clause-seen : goal.returns-clause-seen
returns-clause-seen g c = sees_on g.S.Store c.args.passes.now c.reply_to.new.passes c.reply_to-2.new.passes c.in_ok-first.ensures.seen c.reply_to-2.ensures.seen

pub returns-clause-answered : goal.returns-clause-answered
returns-clause-answered g c =
    all_both_asked g.S.Store c.args.passes.now c.reply_to.new.passes c.reply_to-2.new.passes c.args.name.now c.in_ok-first.first c.reply_to-2.result c.in_ok-first.ensures.given (sym c.has_row.ensures ∙ c.if-has_row.false)
    c.in_ok-first.ensures.seen c.reply_to-2.ensures.seen c.reply_to-2.ensures.given

pub returns-clause-refused : goal.returns-clause-refused
returns-clause-refused g c =
    second_refused g.S.Store c.args.stores.now c.args.passes.now c.reply_to.new.passes c.reply_to-2.new.passes c.args.name.now c.reply_to-2.result c.in_ok-first.ensures.seen c.in_ok-first.ensures.given.calm c.reply_to-2.ensures.refused
