-- Where a switch over services ends, and the rows that it takes, nsswitch.conf(5).
use Rattle.std.specs.Prelude.{◌≡◌, ◌⊎◌, Bool, true, false, ◌&&◌, List, [], ◌∷◌, ◌++◌, All, filter, map, Option, None}
use Rattle.nsc_model.specs.declared.kind.Kind.{Kind}
use Rattle.nsc_model.specs.declared.row.Row.{Row}
use Rattle.nsc_model.specs.declared.row.Looked.{Looked}
use Rattle.nsc_model.specs.declared.row.Looked.TheVariants.{Unavail}
use Rattle.nsc_model.specs.declared.switch.SwitchService.{SwitchService}
use Rattle.nsc_model.specs.declared.switch.SwitchAction.{SwitchAction}
use Rattle.nsc_model.specs.declared.switch.SwitchAction.TheVariants.{Return, Continue, Merge}
use Rattle.nsc_model.specs.declared.switch.SwitchStep.{SwitchStep}
use Rattle.nsc_model.specs.Services.{action_at}
use Rattle.nsc_model.specs.Answers.{joined, merges, row_in, switched}

-- the rows of these services in turn, joined to the one that is held
abbrev pub taken_on : (SwitchService → Looked) → Option Row → List SwitchService → Looked
taken_on look held [] = joined held Unavail
taken_on look held (service ∷ []) = joined held (look service)
taken_on look held (service ∷ next ∷ services) = taken_on look (row_in (joined held (look service))) (next ∷ services)

-- the outcome of a switch that takes the rows of these services: unavailable if there is none
abbrev pub taken : (SwitchService → Looked) → List SwitchService → Looked
taken look services = taken_on look None services

-- what a step does at the status of its service
abbrev pub action_of : (SwitchService → Looked) → SwitchStep → SwitchAction
action_of look step = action_at step (look step.service)

abbrev pub is_merge : SwitchAction → Bool
is_merge Return = false
is_merge Continue = false
is_merge Merge = true

-- a step merges where its action does and its service found a row that can be joined
abbrev pub merges_at : Kind → (SwitchService → Looked) → SwitchStep → Bool
merges_at by look step = is_merge (action_of look step) && merges by (look step.service)

-- the switch goes on after a step that continues, and after one that merges
abbrev pub GoesOn : Kind → (SwitchService → Looked) → SwitchStep → Type 0
GoesOn by look step = (action_of look step ≡ Continue) ⊎ (merges_at by look step ≡ true)

-- the switch goes on after each of the steps `before` and ends at `step`: it does not go on after `step`, or `step` is the last; it
-- takes the rows of the services of `before` that merge, in order, and then that of `step`, and its outcome is these rows joined
pub record EndsAt (by : Kind) (look : SwitchService → Looked) (steps : List SwitchStep) (services : List SwitchService) : Type 0 where
  pub before : List SwitchStep
  pub step : SwitchStep
  pub unasked : List SwitchStep
  pub merged : List SwitchService
  pub is : steps ≡ before ++ step ∷ unasked
  pub each_goes_on : All (GoesOn by look) before
  pub ends_here : (GoesOn by look step → ⊥) ⊎ (unasked ≡ [])
  pub merged_are : merged ≡ map (λ s. s.service) (filter (merges_at by look) before)
  pub services_are : services ≡ merged ++ step.service ∷ []
  pub outcome : switched by look steps ≡ taken look services
