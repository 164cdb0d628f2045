use Rattle.std.proofs.Common.{true, List, [], ◌++◌, map, ap, refl, ◌∙◌}
use Rattle.std.specs.Option.{is_some}
use Rattle.nsc_model.specs.Answers.{is_id}
use Rattle.nsc_model.specs.Compat.{sayings}
use Rattle.nsc_model.specs.Entries.{if_named}
use Rattle.nsc_model.specs.Users.{user_of_line}
use Rattle.nsc_accounts.specs.Matters.{sign_name, speaks_on}
use Rattle.nsc_index.specs.declared.names.NameAt.{NameAt}
use Rattle.nsc_index.proofs.UserRows.{places_of_users}
use Rattle.nsc_index.proofs.SignRows.{added_to_none, all_signs}
use Rattle.nsc_index.proofs.users.UserIndex.lines_of_id.Goals as goal

pub returns : goal.returns
returns c =
    let text = c.args.text.now in
    let own = places_of_users text (λ p. is_id c.args.uid p.uid) c.in_ok-places.places.items c.in_ok-places.ensures in
    let signs = all_signs text c.args.self.now.signs.items c.requires.signs c.in_ok-places.places.items c.add_named.new.places.items (c.in_ok-add_named.ensures ∙ ap (λ (rows : List NameAt). c.in_ok-places.places.items ++ map (λ (at : NameAt). at.line) rows) c.deref.ensures.value) in
    c.in_ok-lines.ensures _
    (added_to_none text (λ line. is_some (if_named (λ p. is_id c.args.uid p.uid) (user_of_line line))) (λ line. speaks_on (λ other. true) (sign_name (sayings line))) [] c.in_ok-places.places.items c.add_named.new.places.items refl own signs)
