-- The outcome of a switch is that of its takers, and the last of them is the service at which it ends.
use Rattle.std.proofs.Common.{◌≡◌, ◌≢◌, ◌⊎◌, Bool, true, false, cond, ◌&&◌, List, [], ◌∷◌, ◌++◌, All, filter, map, Option, None, refl, sym, ap, subst, ◌∙◌, inl, inr}
use Rattle.std.proofs.lemmas.List.Elements.{All-nil, All-cons}
use Rattle.nsc_model.specs.declared.answer.Request.{Request}
use Rattle.nsc_model.specs.declared.kind.Db.{Db}
use Rattle.nsc_model.specs.declared.kind.Kind.{Kind}
use Rattle.nsc_model.specs.declared.row.Row.{Row}
use Rattle.nsc_model.specs.declared.row.Looked.{Looked}
use Rattle.nsc_model.specs.Content.{Content}
use Rattle.nsc_model.specs.declared.switch.SwitchService.{SwitchService}
use Rattle.nsc_model.specs.declared.switch.SwitchAction.{SwitchAction}
use Rattle.nsc_model.specs.declared.switch.SwitchAction.TheVariants.{Return, Continue, Merge}
use Rattle.nsc_model.specs.declared.switch.SwitchStep.{SwitchStep}
use Rattle.nsc_model.specs.Switches.{compat_list, service_list}
use Rattle.nsc_model.specs.Answers.{joined, merges, row_in, service_answer, stepped, sub_answer, switched, switched_on, taken_at, takers}
use Rattle.nsc_laws.specs.Turns.{EndsAt, GoesOn, action_of, is_merge, merges_at, taken, taken_on}
use Rattle.nsc_laws.proofs.GivenLists.{some_asked, some_listed}

-- ---- the outcome

-- a switch over a service or more takes the rows of one at least
some_taken : (by : Kind) (look : SwitchService → Looked) (step : SwitchStep) (steps : List SwitchStep) → takers by look (step ∷ steps) ≢ []
some_taken by look step [] none = cc
some_taken by look step (next ∷ steps) none = by_action (action_of look step) (some_taken by look next steps) none where
  by_merge : (b : Bool) → cond b (step.service ∷ takers by look (next ∷ steps)) (step.service ∷ []) ≢ []
  by_merge true is = cc
  by_merge false is = cc

  by_action : (a : SwitchAction) → takers by look (next ∷ steps) ≢ [] → taken_at by a (look step.service) step.service (takers by look (next ∷ steps)) ≢ []
  by_action Return some is = cc
  by_action Merge some is = by_merge (merges by (look step.service)) is
  by_action Continue some is = some is

-- where others follow, the row of the first one is held
taken_first : (look : SwitchService → Looked) (held : Option Row) (service : SwitchService) (services : List SwitchService) → services ≢ []
    → taken_on look held (service ∷ services) ≡ taken_on look (row_in (joined held (look service))) services
taken_first look held service [] some = absurd (some refl)
taken_first look held service (next ∷ services) some = refl

outcome_taken_on : (by : Kind) (look : SwitchService → Looked) (held : Option Row) (steps : List SwitchStep) → switched_on by look held steps ≡ taken_on look held (takers by look steps)
outcome_taken_on by look held [] = refl
outcome_taken_on by look held (step ∷ []) = refl
outcome_taken_on by look held (step ∷ next ∷ steps) =
    by_action (action_of look step) (outcome_taken_on by look (row_in (joined held (look step.service))) (next ∷ steps)) (outcome_taken_on by look held (next ∷ steps)) where
      outcome : Looked
      outcome = look step.service

      row : Option Row
      row = row_in (joined held outcome)

      later : List SwitchService
      later = takers by look (next ∷ steps)

      by_merge : (b : Bool) → switched_on by look row (next ∷ steps) ≡ taken_on look row later
          → cond b (switched_on by look row (next ∷ steps)) (joined held outcome) ≡ taken_on look held (cond b (step.service ∷ later) (step.service ∷ []))
      by_merge true merged = merged ∙ sym (taken_first look held step.service later (some_taken by look next steps))
      by_merge false merged = refl

      by_action : (a : SwitchAction) → switched_on by look row (next ∷ steps) ≡ taken_on look row later → switched_on by look held (next ∷ steps) ≡ taken_on look held later
          → stepped by a held outcome (λ r. switched_on by look r (next ∷ steps)) ≡ taken_on look held (taken_at by a outcome step.service later)
      by_action Return merged passed = refl
      by_action Merge merged passed = by_merge (merges by outcome) merged
      by_action Continue merged passed = passed

pub outcome_taken : (by : Kind) (look : SwitchService → Looked) (steps : List SwitchStep) → switched by look steps ≡ taken look (takers by look steps)
outcome_taken by look steps = outcome_taken_on by look None steps

-- ---- the end

-- the steps at which a switch takes rows, whatever comes of them: `EndsAt` but for the outcome
record Ends (by : Kind) (look : SwitchService → Looked) (steps : List SwitchStep) (services : List SwitchService) : Type 0 where
  before : List SwitchStep
  step : SwitchStep
  unasked : List SwitchStep
  is : steps ≡ before ++ step ∷ unasked
  each_goes_on : All (GoesOn by look) before
  ends_here : (GoesOn by look step → ⊥) ⊎ (unasked ≡ [])
  services_are : services ≡ map (λ s. s.service) (filter (merges_at by look) before) ++ step.service ∷ []

-- by its action, a step goes on or not, at an outcome of its service
abbrev GoesBy : Kind → Looked → SwitchAction → Type 0
GoesBy by outcome action = (action ≡ Continue) ⊎ ((is_merge action && merges by outcome) ≡ true)

-- it goes on, and takes its rows where it merges; or it does not, and its rows are the last
abbrev Turn : Kind → Looked → SwitchService → List SwitchService → SwitchAction → Type 0
Turn by outcome service later action =
    (GoesBy by outcome action × (taken_at by action outcome service later ≡ cond (is_merge action && merges by outcome) (service ∷ later) later))
    ⊎ ((GoesBy by outcome action → ⊥) × (taken_at by action outcome service later ≡ service ∷ []))

goes_or_ends : (by : Kind) (outcome : Looked) (service : SwitchService) (later : List SwitchService) (action : SwitchAction) → Turn by outcome service later action
goes_or_ends by outcome service later Return = inr (λ goes. elim goes [ inl is ↦ cc | inr is ↦ cc ], refl)
goes_or_ends by outcome service later Continue = inl (inl refl, refl)
goes_or_ends by outcome service later Merge = by_merge (merges by outcome) where
  by_merge : (b : Bool) → (((Merge ≡ Continue) ⊎ (b ≡ true)) × (cond b (service ∷ later) (service ∷ []) ≡ cond b (service ∷ later) later))
      ⊎ (((Merge ≡ Continue) ⊎ (b ≡ true) → ⊥) × (cond b (service ∷ later) (service ∷ []) ≡ service ∷ []))
  by_merge true = inl (inr refl, refl)
  by_merge false = inr (λ goes. elim goes [ inl is ↦ cc | inr is ↦ cc ], refl)

module _ (by : Kind) (look : SwitchService → Looked) where
  -- the switch ends at the first step
  here : (step : SwitchStep) (unasked : List SwitchStep) → (GoesOn by look step → ⊥) ⊎ (unasked ≡ []) → Ends by look (step ∷ unasked) (step.service ∷ [])
  here step unasked ends = record { before = []; step = step; unasked = unasked; is = refl; each_goes_on = All-nil (GoesOn by look); ends_here = ends; services_are = refl }

  -- it goes on after the first step, and takes its rows where it merges
  past : (step : SwitchStep) (steps : List SwitchStep) (services : List SwitchService) → GoesOn by look step → Ends by look steps services
      → Ends by look (step ∷ steps) (cond (merges_at by look step) (step.service ∷ services) services)
  past step steps services goes later = record {
    before = step ∷ later.before;
    step = later.step;
    unasked = later.unasked;
    is = ap (λ (all : List SwitchStep). step ∷ all) later.is;
    each_goes_on = All-cons (GoesOn by look) step later.before goes later.each_goes_on;
    ends_here = later.ends_here;
    services_are = by_merge (merges_at by look step) later.services_are;
  } where
    by_merge : (b : Bool) → services ≡ map (λ s. s.service) (filter (merges_at by look) later.before) ++ later.step.service ∷ []
        → cond b (step.service ∷ services) services ≡ map (λ s. s.service) (cond b (step ∷ filter (merges_at by look) later.before) (filter (merges_at by look) later.before)) ++ later.step.service ∷ []
    by_merge true are = ap (λ (all : List SwitchService). step.service ∷ all) are
    by_merge false are = are

  ends : (steps : List SwitchStep) → steps ≢ [] → Ends by look steps (takers by look steps)
  ends [] some = absurd (some refl)
  ends (step ∷ []) some = here step [] (inr refl)
  ends (step ∷ next ∷ steps) some =
      let family : List SwitchService → Type 0 = Ends by look (step ∷ next ∷ steps) in
      let later = takers by look (next ∷ steps) in
      elim (goes_or_ends by (look step.service) step.service later (action_of look step)) [
        | inl goes ↦ subst family (sym goes.1) (past step (next ∷ steps) later goes.0 (ends (next ∷ steps) (λ none. cc)))
        | inr stays ↦ subst family (sym stays.1) (here step (next ∷ steps) (inl stays.0))
      ]

pub ends_at : (by : Kind) (look : SwitchService → Looked) (steps : List SwitchStep) → steps ≢ [] → EndsAt by look steps (takers by look steps)
ends_at by look steps some =
    let e = ends by look steps some in
    record {
      before = e.before;
      step = e.step;
      unasked = e.unasked;
      merged = map (λ s. s.service) (filter (merges_at by look) e.before);
      is = e.is;
      each_goes_on = e.each_goes_on;
      ends_here = e.ends_here;
      merged_are = refl;
      services_are = e.services_are;
      outcome = outcome_taken by look steps;
    }

pub lists_end_at : (files : Content) (request : Request) (db : Db) → EndsAt request.kind (service_answer files request) (service_list files db) (takers request.kind (service_answer files request) (service_list files db))
lists_end_at files request db = ends_at request.kind (service_answer files request) (service_list files db) (some_listed files db)

pub sub_lists_end_at : (files : Content) (request : Request) (db : Db) → EndsAt request.kind (sub_answer files request) (compat_list files db) (takers request.kind (sub_answer files request) (compat_list files db))
sub_lists_end_at files request db = ends_at request.kind (sub_answer files request) (compat_list files db) (some_asked files db)
