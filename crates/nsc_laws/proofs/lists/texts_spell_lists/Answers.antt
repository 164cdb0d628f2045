use Rattle.nsc_laws.proofs.Grammar.{written_is_read}
use Rattle.nsc_laws.proofs.GrammarItems.{read_is_written}
use Rattle.nsc_laws.proofs.lists.texts_spell_lists.Goals as goal

pub returns-clause-read : goal.returns-clause-read
returns-clause-read c = written_is_read

pub returns-clause-spelled : goal.returns-clause-spelled
returns-clause-spelled c = read_is_written
