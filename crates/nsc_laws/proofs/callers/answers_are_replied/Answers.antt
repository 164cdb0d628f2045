use Rattle.nsc_laws.proofs.RunReplies.{answer_replied, seen_answer}
use Rattle.nsc_laws.proofs.RunAnswers.{reply_answered}
use Rattle.nsc_laws.proofs.callers.answers_are_replied.Goals as goal

pub returns-clause-replied : goal.returns-clause-replied
returns-clause-replied c = answer_replied

pub returns-clause-answered : goal.returns-clause-answered
returns-clause-answered c = reply_answered

pub returns-clause-any : goal.returns-clause-any
returns-clause-any c = seen_answer
