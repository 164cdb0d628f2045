-- What a switch does after a step, and the services whose rows it took.
use Rattle.std.specs.Prelude.{if◌then◌else◌, List, ◌++◌}
use Rattle.std.specs.Option.{option_to_list}
use Rattle.nsc_model.specs.declared.kind.Kind.{Kind}
use Rattle.nsc_model.specs.declared.row.Looked.{Looked}
use Rattle.nsc_model.specs.declared.switch.SwitchAction.{SwitchAction}
use Rattle.nsc_model.specs.declared.switch.SwitchAction.TheVariants.{Return, Continue, Merge}
use Rattle.nsc_model.specs.declared.switch.SwitchService.{SwitchService}
use Rattle.nsc_model.specs.Answers.{merges}
use Rattle.nsc_switch.specs.declared.decided.Decided.{Decided}

-- the action at an outcome, where a merge that joins nothing is to return
abbrev pub action_taken : Kind → SwitchAction → Looked → SwitchAction
action_taken by Return outcome = Return
action_taken by Merge outcome = if merges by outcome then Merge else Return
action_taken by Continue outcome = Continue

-- the services whose rows were held, and the one at which the switch ended
abbrev pub all_takers : Decided → List SwitchService
all_takers decided = decided.merged.items ++ option_to_list decided.taker
