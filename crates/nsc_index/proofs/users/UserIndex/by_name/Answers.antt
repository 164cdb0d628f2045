use Rattle.std.proofs.Common.{ap, filter, map, refl, ◌∙◌}
use Rattle.std.specs.Str.{bytes_eq}
use Rattle.nsc_base.specs.Text.{part}
use Rattle.nsc_accounts.specs.Passwd.{user_places}
use Rattle.nsc_index.specs.declared.numbers.NumberAt.{NumberAt}
use Rattle.nsc_index.specs.Indexes.{on_line}
use Rattle.nsc_index.specs.Numbers.{has_number}
use Rattle.nsc_index.proofs.NumberedLines.{named_at}
use Rattle.nsc_index.proofs.UserRows.{first_tried, first_user, lines_of_name}
use Rattle.nsc_index.proofs.users.UserIndex.by_name.Goals as goal

pub returns-clause-entry : goal.returns-clause-entry
returns-clause-entry c =
    let text = c.args.text.now in
    let name = c.args.name.now in
    let lines = c.deref.result.now in
    let are = c.deref.ensures.value ∙ c.in_ok-lines.ensures ∙ ap (λ n. map (λ (at : NumberAt). at.line) (filter (has_number n) c.args.self.now.names)) c.text_number.ensures in
    let places = filter (named_at (user_places text) (λ at. bytes_eq (part text at.name) name) text) lines in
    first_user text (λ p. bytes_eq p.name name) places (lines_of_name text c.args.self.now c.requires name lines places are refl) c.first_named.result
    (c.first_named.ensures.entry ∙ first_tried (on_line (user_places text) text) (λ at. bytes_eq (part text at.name) name) lines)
