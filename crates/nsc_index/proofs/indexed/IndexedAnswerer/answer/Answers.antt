use Rattle.nsc_answer.proofs.Marked.{is_answer, of_kind, reply_fits}
use Rattle.nsc_index.specs.Indexed.{content_of}
use Rattle.nsc_index.proofs.indexed.IndexedAnswerer.answer.Goals as goal

pub answer_with-requires-clause-of_kind : goal.answer_with-requires-clause-of_kind
answer_with-requires-clause-of_kind c = of_kind (content_of c.args.ready.now) (record { kind = c.args.kind; key = c.args.key.now }) c.in_ok-looked.looked c.in_ok-looked.ensures.fits c.in_ok-looked.ensures.outcome

pub answer_with-requires-clause-fits : goal.answer_with-requires-clause-fits
answer_with-requires-clause-fits c = reply_fits (content_of c.args.ready.now) (record { kind = c.args.kind; key = c.args.key.now }) c.in_ok-looked.looked c.in_ok-looked.ensures.fits c.in_ok-looked.ensures.outcome

pub returns : goal.returns
returns c = is_answer (content_of c.args.ready.now) (record { kind = c.args.kind; key = c.args.key.now }) c.in_ok-looked.looked c.answer_with.result c.in_ok-looked.ensures.outcome c.answer_with.ensures
