use Rattle.nsc_laws.proofs.SpelledHistories.{answered_law, loaded_law}
use Rattle.nsc_laws.proofs.answers.answers_in_histories_spell_their_rows.Goals as goal

pub returns-clause-loaded : goal.returns-clause-loaded
returns-clause-loaded c = loaded_law

pub returns-clause-answered : goal.returns-clause-answered
returns-clause-answered c = answered_law
