use Rattle.nsc_model.specs.Answers.{service_answer}
use Rattle.nsc_laws.proofs.Takers.{outcome_taken}
use Rattle.nsc_laws.proofs.switches.outcomes_are_taken.Goals as goal

pub returns-clause-any : goal.returns-clause-any
returns-clause-any c = outcome_taken

pub returns-clause-of_content : goal.returns-clause-of_content
returns-clause-of_content c = λ files request. outcome_taken request.kind (service_answer files request)
