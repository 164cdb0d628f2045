use Rattle.std.proofs.Common.{◌≡◌, ◌==◌, Some, sym, ap, ◌∙◌}
use Rattle.std.specs.Str.{bytes_eq}
use Rattle.nsc_base.specs.Text.{part}
use Rattle.nsc_model.specs.Entries.{if_named}
use Rattle.nsc_model.specs.Users.{user_of_line}
use Rattle.nsc_accounts.proofs.Named.{user_given}
use Rattle.nsc_compat.specs.declared.asking.Naming.TheVariants.{Id}
use Rattle.nsc_compat.specs.Accounts.{is_wanted, passwd_accounts}
use Rattle.nsc_compat.proofs.users.wanted_user.Goals as goal

pub returns-in-Name-clause-entry : goal.returns-in-Name-clause-entry
returns-in-Name-clause-entry c =
    let line = part c.args.text.now c.args.line in
    user_given c.args.text.now (λ p. bytes_eq p.name c.in-Name.name.now) c.args.line _ c.user_named.ensures.ordered c.requires c.user_named.ensures.given
    ∙ ap (λ wanted. if_named (is_wanted passwd_accounts wanted) (user_of_line line)) (sym c.in-Name.is)

pub returns-in-Id-Some-clause-entry : goal.returns-in-Id-Some-clause-entry
returns-in-Id-Some-clause-entry c =
    let line = part c.args.text.now c.args.line in
    let is : c.args.wanted.now ≡ Id (Some c.in-Id-Some.uid) = c.in-Id-Some.is ∙ ap Id (rw c.in-Id-Some.is at c.in-Id-Some.field-0-is) in
    user_given c.args.text.now (λ p. p.uid == c.in-Id-Some.uid) c.args.line _ c.user_numbered.ensures.ordered c.requires c.user_numbered.ensures.given
    ∙ ap (λ wanted. if_named (is_wanted passwd_accounts wanted) (user_of_line line)) (sym is)
