use Rattle.std.proofs.Common.{◌≡◌, ◌==◌, Some, sym, ap, ◌∙◌}
use Rattle.std.specs.Option.{is_some}
use Rattle.std.specs.Str.{bytes_eq}
use Rattle.nsc_base.specs.Text.{part}
use Rattle.nsc_accounts.specs.Group.{group_at}
use Rattle.nsc_accounts.specs.Matters.{entry_matters}
use Rattle.nsc_accounts.specs.Passwd.{user_at}
use Rattle.nsc_accounts.specs.declared.sought.Sought.TheVariants.{UserId, GroupId}
use Rattle.nsc_accounts.proofs.Mattering.{is_mapped}
use Rattle.nsc_accounts.proofs.Named.{group_given, user_given}
use Rattle.nsc_accounts.proofs.matters.has_sought.Goals as goal

pub returns-in-User : goal.returns-in-User
returns-in-User c =
    let text = c.args.text.now in
    let given = user_given text (λ p. bytes_eq p.name c.in-User.name.now) c.args.line c.user_named.result c.user_named.ensures.ordered c.requires c.user_named.ensures.given in
    c.is_some.ensures ∙ is_mapped (user_at text) c.user_named.result ∙ ap is_some given ∙ ap (λ sought. entry_matters sought (part text c.args.line)) (sym c.in-User.is)

pub returns-in-UserId-Some : goal.returns-in-UserId-Some
returns-in-UserId-Some c =
    let text = c.args.text.now in
    let given = user_given text (λ p. p.uid == c.in-UserId-Some.uid) c.args.line c.user_numbered.result c.user_numbered.ensures.ordered c.requires c.user_numbered.ensures.given in
    let is : c.args.sought.now ≡ UserId (Some c.in-UserId-Some.uid) = c.in-UserId-Some.is ∙ ap UserId (rw c.in-UserId-Some.is at c.in-UserId-Some.field-0-is) in
    c.is_some-in-UserId-Some.ensures ∙ is_mapped (user_at text) c.user_numbered.result ∙ ap is_some given ∙ ap (λ sought. entry_matters sought (part text c.args.line)) (sym is)

pub returns-in-Group : goal.returns-in-Group
returns-in-Group c =
    let text = c.args.text.now in
    let given = group_given text (λ g. bytes_eq g.name c.in-Group.name.now) c.args.line c.group_named.result c.group_named.ensures.ordered c.requires c.group_named.ensures.given in
    c.is_some-in-Group.ensures ∙ is_mapped (group_at text) c.group_named.result ∙ ap is_some given ∙ ap (λ sought. entry_matters sought (part text c.args.line)) (sym c.in-Group.is)

pub returns-in-GroupId-Some : goal.returns-in-GroupId-Some
returns-in-GroupId-Some c =
    let text = c.args.text.now in
    let given = group_given text (λ g. g.gid == c.in-GroupId-Some.gid) c.args.line c.group_numbered.result c.group_numbered.ensures.ordered c.requires c.group_numbered.ensures.given in
    let is : c.args.sought.now ≡ GroupId (Some c.in-GroupId-Some.gid) = c.in-GroupId-Some.is ∙ ap GroupId (rw c.in-GroupId-Some.is at c.in-GroupId-Some.field-0-is) in
    c.is_some-in-GroupId-Some.ensures ∙ is_mapped (group_at text) c.group_numbered.result ∙ ap is_some given ∙ ap (λ sought. entry_matters sought (part text c.args.line)) (sym is)
