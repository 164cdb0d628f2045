-- A switch, step after step, with the row that is held.
use Rattle.std.proofs.Common.{◌≡◌, ℕ, ◌+◌, ◌<◌, true, false, if◌then◌else◌, List, [], ◌∷◌, ◌++◌, length, drop, get_or, Option, refl, sym, ap, ◌∙◌}
use Rattle.std.proofs.lemmas.List.{at_drop_more}
use Rattle.nsc_model.specs.declared.kind.Kind.{Kind}
use Rattle.nsc_model.specs.declared.row.Looked.{Looked}
use Rattle.nsc_model.specs.declared.row.Row.{Row}
use Rattle.nsc_model.specs.declared.switch.SwitchAction.{SwitchAction}
use Rattle.nsc_model.specs.declared.switch.SwitchAction.TheVariants.{Return, Continue, Merge}
use Rattle.nsc_model.specs.declared.switch.SwitchService.{SwitchService}
use Rattle.nsc_model.specs.declared.switch.SwitchStep.{SwitchStep}
use Rattle.nsc_model.specs.Services.{action_at}
use Rattle.nsc_model.specs.Answers.{joined, merges, row_in, stepped, switched_on, taken_at, takers}
use Rattle.nsc_switch.specs.Actions.{action_taken}

-- one of three, by an action
abbrev pub by_action : {X : Type 0} → SwitchAction → X → X → X → X
by_action Return ended merged passed = ended
by_action Merge ended merged passed = merged
by_action Continue ended merged passed = passed

-- the outcome of a step, by the action that is taken
stepped_is : (by : Kind) (action : SwitchAction) (held : Option Row) (outcome : Looked) (next : Option Row → Looked)
    → stepped by action held outcome next ≡ by_action (action_taken by action outcome) (joined held outcome) (next (row_in (joined held outcome))) (next held)
stepped_is by Return held outcome next = refl
stepped_is by Merge held outcome next =
    elim (merges by outcome) as (λ v. (if v then next (row_in (joined held outcome)) else joined held outcome) ≡ by_action (if v then Merge else Return) (joined held outcome) (next (row_in (joined held outcome))) (next held)) [
      | true ↦ refl
      | false ↦ refl
    ]
stepped_is by Continue held outcome next = refl

taken_is : (by : Kind) (action : SwitchAction) (outcome : Looked) (service : SwitchService) (later : List SwitchService)
    → taken_at by action outcome service later ≡ by_action (action_taken by action outcome) (service ∷ []) (service ∷ later) later
taken_is by Return outcome service later = refl
taken_is by Merge outcome service later =
    elim (merges by outcome) as (λ v. (if v then service ∷ later else service ∷ []) ≡ by_action (if v then Merge else Return) (service ∷ []) (service ∷ later) later) [
      | true ↦ refl
      | false ↦ refl
    ]
taken_is by Continue outcome service later = refl

-- the outcome of the steps that are left and the last one, with the row that is held
abbrev pub left : Kind → (SwitchService → Looked) → SwitchStep → Option Row → List SwitchStep → Looked
left by look last held steps = switched_on by look held (steps ++ last ∷ [])

-- and the services whose rows they take
abbrev pub takers_left : Kind → (SwitchService → Looked) → SwitchStep → List SwitchStep → List SwitchService
takers_left by look last steps = takers by look (steps ++ last ∷ [])

-- the outcome of a step before the last one, by the action that is taken
left_at : (by : Kind) (look : SwitchService → Looked) (last : SwitchStep) (held : Option Row) (step : SwitchStep) (steps : List SwitchStep)
    → left by look last held (step ∷ steps)
    ≡ by_action (action_taken by (action_at step (look step.service)) (look step.service)) (joined held (look step.service)) (left by look last (row_in (joined held (look step.service))) steps) (left by look last held steps)
left_at by look last held step [] = stepped_is by (action_at step (look step.service)) held (look step.service) (λ row. left by look last row [])
left_at by look last held step (next ∷ steps) = stepped_is by (action_at step (look step.service)) held (look step.service) (λ row. left by look last row (next ∷ steps))

takers_at : (by : Kind) (look : SwitchService → Looked) (last step : SwitchStep) (steps : List SwitchStep)
    → takers_left by look last (step ∷ steps)
    ≡ by_action (action_taken by (action_at step (look step.service)) (look step.service)) (step.service ∷ []) (step.service ∷ takers_left by look last steps) (takers_left by look last steps)
takers_at by look last step [] = taken_is by (action_at step (look step.service)) (look step.service) step.service (takers_left by look last [])
takers_at by look last step (next ∷ steps) = taken_is by (action_at step (look step.service)) (look step.service) step.service (takers_left by look last (next ∷ steps))

-- a step before the last one decides by its outcome and the action that is taken
pub step_decides : (by : Kind) (look : SwitchService → Looked) (last : SwitchStep) (held : Option Row) (earlier : List SwitchStep) (n : ℕ) (none : SwitchStep) (outcome : Looked) (all : Looked)
    → n < length earlier → left by look last held (drop n earlier) ≡ all → outcome ≡ look (get_or earlier n none).service → (action : SwitchAction) → action ≡ action_taken by (action_at (get_or earlier n none) outcome) outcome
    → by_action action (joined held outcome) (left by look last (row_in (joined held outcome)) (drop (n + 1) earlier)) (left by look last held (drop (n + 1) earlier)) ≡ all
step_decides by look last held earlier n none outcome all lt e is action taken =
    let step = get_or earlier n none in
    let rest = drop (n + 1) earlier in
    ap (λ a. by_action a (joined held outcome) (left by look last (row_in (joined held outcome)) rest) (left by look last held rest)) taken
    ∙ ap (λ o. by_action (action_taken by (action_at step o) o) (joined held o) (left by look last (row_in (joined held o)) rest) (left by look last held rest)) is
    ∙ sym (left_at by look last held step rest) ∙ sym (at_drop_more (left by look last held) earlier n none lt) ∙ e

pub step_takes : (by : Kind) (look : SwitchService → Looked) (last : SwitchStep) (merged : List SwitchService) (earlier : List SwitchStep) (n : ℕ) (none : SwitchStep) (outcome : Looked) (all : List SwitchService)
    → n < length earlier → merged ++ takers_left by look last (drop n earlier) ≡ all → outcome ≡ look (get_or earlier n none).service → (action : SwitchAction) → action ≡ action_taken by (action_at (get_or earlier n none) outcome) outcome
    → merged ++ by_action action ((get_or earlier n none).service ∷ []) ((get_or earlier n none).service ∷ takers_left by look last (drop (n + 1) earlier)) (takers_left by look last (drop (n + 1) earlier)) ≡ all
step_takes by look last merged earlier n none outcome all lt e is action taken =
    let step = get_or earlier n none in
    let later = takers_left by look last (drop (n + 1) earlier) in
    ap (λ a. merged ++ by_action a (step.service ∷ []) (step.service ∷ later) later) taken
    ∙ ap (λ o. merged ++ by_action (action_taken by (action_at step o) o) (step.service ∷ []) (step.service ∷ later) later) is
    ∙ ap (λ services. merged ++ services) (sym (takers_at by look last step (drop (n + 1) earlier)))
    ∙ sym (at_drop_more (λ steps. merged ++ takers_left by look last steps) earlier n none lt) ∙ e
