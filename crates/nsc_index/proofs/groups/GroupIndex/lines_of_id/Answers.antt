use Rattle.std.proofs.Common.{true, List, ◌++◌, map, ap, ◌∙◌}
use Rattle.std.specs.Option.{is_some}
use Rattle.nsc_model.specs.Answers.{is_id}
use Rattle.nsc_model.specs.Compat.{sayings}
use Rattle.nsc_model.specs.Entries.{if_named}
use Rattle.nsc_model.specs.Groups.{group_of_line}
use Rattle.nsc_accounts.specs.Matters.{sign_name, speaks_on}
use Rattle.nsc_index.specs.declared.names.NameAt.{NameAt}
use Rattle.nsc_index.proofs.SignRows.{added_to_none, all_signs}
use Rattle.nsc_index.proofs.groups.GroupIndex.lines_of_id.Goals as goal

pub returns : goal.returns
returns c =
    c.in_ok-lines.ensures _
    (added_to_none c.args.text.now (λ line. is_some (if_named (λ g. is_id c.args.gid g.gid) (group_of_line line))) (λ line. speaks_on (λ other. true) (sign_name (sayings line))) c.new-places.result.items c.add_lines_of_id.new.places.items
    c.add_named.new.places.items c.new-places.ensures.items c.in_ok-add_lines_of_id.ensures (all_signs c.args.text.now c.args.self.now.signs.items c.requires.signs c.add_lines_of_id.new.places.items c.add_named.new.places.items (c.in_ok-add_named.ensures ∙ ap (λ (rows : List NameAt). c.add_lines_of_id.new.places.items ++ map (λ (at : NameAt). at.line) rows) c.deref.ensures.value)))
