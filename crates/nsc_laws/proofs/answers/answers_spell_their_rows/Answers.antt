use Rattle.nsc_laws.proofs.Spelled.{answer_marks, answer_spells}
use Rattle.nsc_laws.proofs.answers.answers_spell_their_rows.Goals as goal

pub returns-clause-spelled : goal.returns-clause-spelled
returns-clause-spelled c = answer_spells

pub returns-clause-marked : goal.returns-clause-marked
returns-clause-marked c = answer_marks
