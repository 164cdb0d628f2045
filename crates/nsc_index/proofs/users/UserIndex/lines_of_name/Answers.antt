use Rattle.std.proofs.Common.{[], refl}
use Rattle.std.specs.Option.{is_some}
use Rattle.std.specs.Str.{bytes_eq}
use Rattle.nsc_model.specs.Answers.{user_named}
use Rattle.nsc_model.specs.Compat.{sayings}
use Rattle.nsc_model.specs.Entries.{if_named}
use Rattle.nsc_model.specs.Users.{user_of_line}
use Rattle.nsc_accounts.specs.Matters.{sign_name, speaks_on}
use Rattle.nsc_index.proofs.UserRows.{places_of_users}
use Rattle.nsc_index.proofs.SignRows.{added_to_none}
use Rattle.nsc_index.proofs.users.UserIndex.lines_of_name.Goals as goal

pub returns : goal.returns
returns c =
    let text = c.args.text.now in
    let name = c.args.name.now in
    let own = places_of_users text (user_named name) c.in_ok-places.places.items c.in_ok-places.ensures in
    c.in_ok-lines.ensures _
    (added_to_none text (λ line. is_some (if_named (user_named name) (user_of_line line))) (λ line. speaks_on (λ other. bytes_eq other name) (sign_name (sayings line))) [] c.in_ok-places.places.items c.add_signs_on.new.places.items refl own c.in_ok-add_signs_on.ensures)
