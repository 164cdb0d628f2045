use Rattle.std.proofs.Common.{◌==◌, filter, refl, ◌∙◌}
use Rattle.nsc_accounts.specs.Passwd.{user_places}
use Rattle.nsc_index.specs.Indexes.{on_line}
use Rattle.nsc_index.proofs.NumberedLines.{named_at}
use Rattle.nsc_index.proofs.UserRows.{first_tried, first_user, lines_of_id}
use Rattle.nsc_index.proofs.users.UserIndex.by_id.Goals as goal

pub returns-clause-entry : goal.returns-clause-entry
returns-clause-entry c =
    let text = c.args.text.now in
    let uid = c.args.uid in
    let lines = c.deref.result.now in
    let places = filter (named_at (user_places text) (λ at. at.uid == uid) text) lines in
    first_user text (λ p. p.uid == uid) places (lines_of_id text c.args.self.now c.requires uid lines places (c.deref.ensures.value ∙ c.in_ok-lines.ensures) refl) c.first_numbered.result
    (c.first_numbered.ensures.entry ∙ first_tried (on_line (user_places text) text) (λ at. at.uid == uid) lines)
