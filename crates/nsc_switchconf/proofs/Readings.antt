-- The reading of a list, token by token: the steps that are done stand before those that the rest spells.
use Rattle.std.proofs.Common.{◌≡◌, ℕ, List, [], ◌∷◌, ◌++◌, Option, Some, None, refl, sym, ◌∙◌, ap, append_assoc}
use Rattle.std.specs.Option.{option_map}
use Rattle.nsc_model.specs.declared.switch.SwitchStep.{SwitchStep}
use Rattle.nsc_model.specs.Switches as switches
use Rattle.nsc_model.specs.Switches.{Rest, Token, at_end, at_place, list_from, onto_steps, tokens_of}
use Rattle.nsc_switchconf.specs.declared.place.Move.{Move}
use Rattle.nsc_switchconf.specs.declared.place.Place.{Place}
use Rattle.nsc_switchconf.specs.declared.place.Place.TheVariants as places
use Rattle.nsc_switchconf.specs.Places.{moved, place_of}

abbrev pub ahead : List SwitchStep → Option (List SwitchStep) → Option (List SwitchStep)
ahead front rest = option_map (λ more. front ++ more) rest

pub ahead-none : (o : Option (List SwitchStep)) → ahead [] o ≡ o
ahead-none None = refl
ahead-none (Some more) = refl

pub ahead-onto : (front : List SwitchStep) (step : SwitchStep) (o : Option (List SwitchStep)) → ahead front (onto_steps step o) ≡ ahead (front ++ step ∷ []) o
ahead-onto front step None = refl
ahead-onto front step (Some more) = ap Some (sym (append_assoc front (step ∷ []) more))

pub read-end : (place : switches.Place) (step : SwitchStep) → list_from place step [] ≡ at_end place step
unfolding list_from
read-end place step = refl

pub read-token : (place : switches.Place) (step : SwitchStep) (token : Token) (tokens : List Token) → list_from place step (token ∷ tokens) ≡ at_place place token step (λ next now. list_from next now tokens)
unfolding list_from
read-token place step token tokens = refl

-- a token moves the reading
pub moving : (answer : Option (List SwitchStep)) (front : List SwitchStep) (place : switches.Place) (token : Token) (step : SwitchStep) (left rest : List ℕ) (moves : Option Move) → ((now : SwitchStep) (more : Rest) → at_place place token now more ≡ moved now more moves) → tokens_of left ≡ token ∷ tokens_of rest → answer ≡ ahead front (list_from place step (tokens_of left)) → answer ≡ ahead front (moved step (λ next now. list_from next now (tokens_of rest)) moves)
moving answer front place token step left rest moves does falls is =
    is ∙ ap (λ tokens. ahead front (list_from place step tokens)) falls
    ∙ ap (ahead front) (read-token place step token (tokens_of rest) ∙ does step (λ next now. list_from next now (tokens_of rest)))

-- a list ends after an item alone
pub ends-between : (place : Place) (step : SwitchStep) → (place ≡ places.Between → ⊥) → at_end (place_of place) step ≡ None
ends-between places.First step not = refl
ends-between places.Between step not = absurd (not refl)
ends-between places.Begin step not = refl
ends-between places.Negated step not = refl
ends-between (places.Named negated status) step not = refl
ends-between (places.Equated negated status) step not = refl
ends-between places.Ruled step not = refl
ends-between places.Next step not = refl

pub ending : (answer : Option (List SwitchStep)) (front : List SwitchStep) (place : switches.Place) (step : SwitchStep) (left : List ℕ) → tokens_of left ≡ [] → answer ≡ ahead front (list_from place step (tokens_of left)) → answer ≡ ahead front (at_end place step)
ending answer front place step left none is =
    is ∙ ap (λ tokens. ahead front (list_from place step tokens)) none ∙ ap (ahead front) (read-end place step)
