-- The places of the reading of a service list, and its rules, as those of its grammar.
use Rattle.std.specs.Prelude.{List, Option, Some, None}
use Rattle.nsc_model.specs.declared.switch.SwitchStep.{SwitchStep}
use Rattle.nsc_model.specs.Services.{plain_step}
use Rattle.nsc_model.specs.Switches as switches
use Rattle.nsc_model.specs.Switches.{Rest, onto_steps, ruled}
use Rattle.nsc_switchconf.specs.declared.rule.Status.{Status}
use Rattle.nsc_switchconf.specs.declared.rule.Status.TheVariants as statuses
use Rattle.nsc_switchconf.specs.declared.rule.Rule.{Rule}
use Rattle.nsc_switchconf.specs.declared.place.Place.{Place}
use Rattle.nsc_switchconf.specs.declared.place.Place.TheVariants as places
use Rattle.nsc_switchconf.specs.declared.place.Move.{Move}
use Rattle.nsc_switchconf.specs.declared.place.Move.TheVariants as moves

abbrev pub status_of : Status → switches.Status
status_of statuses.Success = switches.OnSuccess
status_of statuses.NotFound = switches.OnNotFound
status_of statuses.Unavail = switches.OnUnavail
status_of statuses.TryAgain = switches.OnTryAgain

abbrev pub rule_of : Rule → switches.Rule
rule_of rule = record { negated = rule.negated; status = status_of rule.status; action = rule.action }

abbrev pub place_of : Place → switches.Place
place_of places.First = switches.First
place_of places.Between = switches.Between
place_of places.Begin = switches.Begin
place_of places.Negated = switches.Negated
place_of (places.Named negated status) = switches.Named negated (status_of status)
place_of (places.Equated negated status) = switches.Equated negated (status_of status)
place_of places.Ruled = switches.Ruled
place_of places.Next = switches.Next

-- the steps that the rest spells after a move, from a step on
abbrev pub moved : SwitchStep → Rest → Option Move → Option (List SwitchStep)
moved step rest None = None
moved step rest (Some (moves.To place)) = rest (place_of place) step
moved step rest (Some (moves.First service)) = rest switches.Between (plain_step service)
moved step rest (Some (moves.Another service)) = onto_steps step (rest switches.Between (plain_step service))
moved step rest (Some (moves.Rule rule)) = rest switches.Ruled (ruled (rule_of rule) step)
