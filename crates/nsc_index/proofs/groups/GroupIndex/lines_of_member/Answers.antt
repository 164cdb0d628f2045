use Rattle.std.proofs.Common.{true, List, ◌++◌, filter, map, ap, ◌∙◌}
use Rattle.std.specs.Option.{is_some}
use Rattle.nsc_base.specs.declared.search.Case.TheVariants.{Counts}
use Rattle.nsc_model.specs.Compat.{sayings}
use Rattle.nsc_model.specs.Entries.{if_named}
use Rattle.nsc_model.specs.Groups.{group_of_line, has_member}
use Rattle.nsc_accounts.specs.Matters.{sign_name, speaks_on}
use Rattle.nsc_index.specs.declared.names.NameAt.{NameAt}
use Rattle.nsc_index.specs.Names.{has_name}
use Rattle.nsc_index.proofs.MemberRows.{member_lines}
use Rattle.nsc_index.proofs.SignRows.{added_to_none, all_signs}
use Rattle.nsc_index.proofs.groups.GroupIndex.lines_of_member.Goals as goal

pub returns : goal.returns
returns c =
    let text = c.args.text.now in
    let user = c.args.user.now in
    let named = c.places_of_name-named.ensures ∙ ap (filter (has_name Counts text user)) c.deref.ensures.value in
    let own = member_lines text user c.args.self.now c.requires c.new-places.result.items c.add_named.new.places.items c.places_of_name-named.result.now named c.in_ok-add_named.ensures in
    c.in_ok-lines.ensures _
    (added_to_none text (λ line. is_some (if_named (has_member user) (group_of_line line))) (λ line. speaks_on (λ other. true) (sign_name (sayings line))) c.new-places.result.items c.add_named.new.places.items c.add_named-2.new.places.items c.new-places.ensures.items own (all_signs text c.args.self.now.signs.items c.requires.signs c.add_named.new.places.items c.add_named-2.new.places.items (c.in_ok-add_named-2.ensures ∙ ap (λ (rows : List NameAt). c.add_named.new.places.items ++ map (λ (at : NameAt). at.line) rows) c.deref-2.ensures.value)))
