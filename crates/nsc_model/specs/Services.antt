-- The services of a list of nsswitch.conf(5), and what each step does at each status.
use Rattle.nsc_model.specs.declared.switch.SwitchService.{SwitchService}
use Rattle.nsc_model.specs.declared.switch.SwitchAction.{SwitchAction}
use Rattle.nsc_model.specs.declared.switch.SwitchAction.TheVariants.{Return, Continue}
use Rattle.nsc_model.specs.declared.switch.SwitchStep.{SwitchStep}
use Rattle.nsc_model.specs.declared.row.Looked.{Looked}
use Rattle.nsc_model.specs.declared.row.Looked.TheVariants.{Found, NotFound, Unavail}

-- a service without rules: SUCCESS returns, and the other statuses continue
abbrev pub plain_step : SwitchService → SwitchStep
plain_step service = record { service = service; success = Return; notfound = Continue; unavail = Continue; tryagain = Continue }

-- what a step does at the status of an outcome; TRYAGAIN never arises from contents
abbrev pub action_at : SwitchStep → Looked → SwitchAction
action_at step (Found row) = step.success
action_at step NotFound = step.notfound
action_at step Unavail = step.unavail
