use Rattle.std.proofs.Common.{filter, ap, ◌∙◌}
use Rattle.std.specs.Option.{is_some}
use Rattle.std.specs.Str.{bytes_eq}
use Rattle.nsc_base.specs.declared.search.Case.TheVariants.{Counts}
use Rattle.nsc_model.specs.Answers.{group_named}
use Rattle.nsc_model.specs.Compat.{sayings}
use Rattle.nsc_model.specs.Entries.{if_named}
use Rattle.nsc_model.specs.Groups.{group_of_line}
use Rattle.nsc_accounts.specs.Matters.{sign_name, speaks_on}
use Rattle.nsc_index.specs.Names.{has_name}
use Rattle.nsc_index.proofs.GroupRows.{named_lines}
use Rattle.nsc_index.proofs.SignRows.{added_to_none}
use Rattle.nsc_index.proofs.groups.GroupIndex.lines_of_name.Goals as goal

pub returns : goal.returns
returns c =
    let text = c.args.text.now in
    let name = c.args.name.now in
    let named = c.places_of_name-named.ensures ∙ ap (filter (has_name Counts text name)) c.deref.ensures.value in
    let own = named_lines text c.args.self.now c.requires name c.new-places.result.items c.add_named.new.places.items c.places_of_name-named.result.now named c.in_ok-add_named.ensures in
    c.in_ok-lines.ensures _
    (added_to_none text (λ line. is_some (if_named (group_named name) (group_of_line line))) (λ line. speaks_on (λ other. bytes_eq other name) (sign_name (sayings line))) c.new-places.result.items c.add_named.new.places.items c.add_signs_on.new.places.items c.new-places.ensures.items own c.in_ok-add_signs_on.ensures)
