-- The service lists of a text of nsswitch.conf(5), in the words of its grammar.
use Rattle.std.specs.Prelude.{◌≡◌, ◌⊎◌, ℕ, List, Option, Some, None}
use Rattle.nsc_model.specs.declared.switch.DbName.{DbName}
use Rattle.nsc_model.specs.declared.switch.SwitchStep.{SwitchStep}
use Rattle.nsc_model.specs.Switches.{WritesSteps, default_list, first_line}

abbrev pub WritesNone : List ℕ → Type 0
WritesNone line = (steps : List SwitchStep) → WritesSteps line steps → ⊥

-- the first line of a list spells these steps, item by item; where it spells none, or there is no such line, they are the
-- default ones
abbrev pub LineGives : DbName → Option (List ℕ) → List SwitchStep → Type 0
LineGives name None steps = steps ≡ default_list name
LineGives name (Some line) steps = WritesSteps line steps ⊎ (WritesNone line × (steps ≡ default_list name))

-- the text gives the list of this name
abbrev pub GivesList : List ℕ → DbName → List SwitchStep → Type 0
GivesList text name steps = LineGives name (first_line name text) steps
