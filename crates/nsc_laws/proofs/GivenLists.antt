-- The service list of a name is the one that a text gives.
use Rattle.std.proofs.Common.{◌≡◌, ◌≢◌, ℕ, List, [], ◌∷◌, Option, Some, None, refl, sym, ◌∙◌, inl, inr}
use Rattle.std.proofs.lemmas.Option.{none-some, same_Some}
use Rattle.nsc_model.specs.declared.kind.Db.{Db}
use Rattle.nsc_model.specs.Content.{Content}
use Rattle.nsc_model.specs.Users.{◌>>=◌}
use Rattle.nsc_model.specs.declared.switch.DbName.{DbName}
use Rattle.nsc_model.specs.declared.switch.DbName.TheVariants as list
use Rattle.nsc_model.specs.declared.switch.SwitchStep.{SwitchStep}
use Rattle.nsc_model.specs.Switches.{Group, Item, Service, compat_list, compat_name, default_list, first_line, list_name, list_of, list_or, service_list, spelled_list, steps_after, steps_of, text_of}
use Rattle.nsc_laws.specs.ServiceLists.{GivesList, LineGives}
use Rattle.nsc_laws.proofs.Grammar.{written_is_read}
use Rattle.nsc_laws.proofs.GrammarItems.{read_is_written}

-- ---- the list is given

line_gives : (name : DbName) (line : List ℕ) (read : Option (List SwitchStep)) → spelled_list line ≡ read → LineGives name (Some line) (list_or (default_list name) read)
line_gives name line None is = inr (λ steps spells. none-some steps (sym is ∙ written_is_read line steps spells), refl)
line_gives name line (Some steps) is = inl (read_is_written line steps is)

from_line : (name : DbName) (line : Option (List ℕ)) → LineGives name line (list_or (default_list name) (line >>= spelled_list))
from_line name None = refl
from_line name (Some line) = line_gives name line (spelled_list line) refl

pub list_given : (text : List ℕ) (name : DbName) → GivesList text name (list_of text name)
list_given text name = from_line name (first_line name text)

-- ---- and no other

other_line : (name : DbName) (line : List ℕ) (steps : List SwitchStep) (read : Option (List SwitchStep)) → spelled_list line ≡ read → LineGives name (Some line) steps → list_or (default_list name) read ≡ steps
other_line name line steps None is (inl spells) = absurd (none-some steps (sym is ∙ written_is_read line steps spells))
other_line name line steps None is (inr default) = sym default.1
other_line name line steps (Some others) is (inl spells) = same_Some others steps (sym is ∙ written_is_read line steps spells)
other_line name line steps (Some others) is (inr default) = absurd (default.0 others (read_is_written line others is))

by_line : (name : DbName) (line : Option (List ℕ)) (steps : List SwitchStep) → LineGives name line steps → list_or (default_list name) (line >>= spelled_list) ≡ steps
by_line name None steps given = sym given
by_line name (Some line) steps given = other_line name line steps (spelled_list line) refl given

pub given_is_list : (text : List ℕ) (name : DbName) (steps : List SwitchStep) → GivesList text name steps → list_of text name ≡ steps
given_is_list text name steps given = by_line name (first_line name text) steps given

-- ---- a list has a service

some_after : (step : SwitchStep) (items : List Item) → steps_after step items ≢ []
some_after step [] none = absurd cc
some_after step (Service word ∷ items) none = absurd cc
some_after step (Group rules ∷ items) none = some_after _ items none

some_steps : (items : List Item) (steps : List SwitchStep) → steps_of items ≡ Some steps → steps ≢ []
some_steps [] steps is none = none-some steps is
some_steps (Group rules ∷ items) steps is none = none-some steps is
some_steps (Service word ∷ items) steps is none = some_after _ items (same_Some _ steps is ∙ none)

some_default : (name : DbName) → default_list name ≢ []
some_default list.Passwd none = absurd cc
some_default _ none = absurd cc

some_given : (name : DbName) (line : Option (List ℕ)) (steps : List SwitchStep) → LineGives name line steps → steps ≢ []
some_given name None steps given none = some_default name (sym given ∙ none)
some_given name (Some line) steps (inl (items, writes, is)) none = some_steps items steps is none
some_given name (Some line) steps (inr default) none = some_default name (sym default.1 ∙ none)

pub some_service : (text : List ℕ) (name : DbName) → list_of text name ≢ []
some_service text name none = some_given name (first_line name text) (list_of text name) (list_given text name) none

pub some_listed : (files : Content) (db : Db) → service_list files db ≢ []
unfolding service_list
some_listed files db = some_service (text_of files.switch) (list_name db)

pub some_asked : (files : Content) (db : Db) → compat_list files db ≢ []
unfolding compat_list
some_asked files db = some_service (text_of files.switch) (compat_name db)
