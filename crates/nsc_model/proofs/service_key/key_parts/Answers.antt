use Rattle.nsc_model.proofs.LastSlash.{cut-found, cut-missing}
use Rattle.nsc_model.proofs.service_key.key_parts.Goals as goal

pub returns-in-Some : goal.returns-in-Some
returns-in-Some c = cut-found c.args.key.now c.in-Some.at c.in-Some.ensures

pub returns-in-None : goal.returns-in-None
returns-in-None c = cut-missing c.args.key.now c.in-None.ensures
