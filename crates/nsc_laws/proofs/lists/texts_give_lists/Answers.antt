use Rattle.nsc_laws.proofs.GivenLists.{list_given, given_is_list, some_service}
use Rattle.nsc_laws.proofs.lists.texts_give_lists.Goals as goal

pub returns-clause-given : goal.returns-clause-given
returns-clause-given c = list_given

pub returns-clause-alone : goal.returns-clause-alone
returns-clause-alone c = given_is_list

pub returns-clause-filled : goal.returns-clause-filled
returns-clause-filled c = some_service
