use Rattle.std.proofs.Common.{◌≡◌, ◌==◌, Some, sym, ap, ◌∙◌}
use Rattle.std.specs.Str.{bytes_eq}
use Rattle.nsc_base.specs.Text.{part}
use Rattle.nsc_model.specs.Entries.{if_named}
use Rattle.nsc_model.specs.Groups.{group_of_line}
use Rattle.nsc_accounts.proofs.Named.{group_given}
use Rattle.nsc_compat.specs.declared.asking.Naming.TheVariants.{Id}
use Rattle.nsc_compat.specs.Accounts.{is_wanted, group_accounts}
use Rattle.nsc_compat.proofs.groups.wanted_group.Goals as goal

pub returns-in-Name-clause-entry : goal.returns-in-Name-clause-entry
returns-in-Name-clause-entry c =
    let line = part c.args.text.now c.args.line in
    group_given c.args.text.now (λ g. bytes_eq g.name c.in-Name.name.now) c.args.line _ c.group_named.ensures.ordered c.requires c.group_named.ensures.given
    ∙ ap (λ wanted. if_named (is_wanted group_accounts wanted) (group_of_line line)) (sym c.in-Name.is)

pub returns-in-Id-Some-clause-entry : goal.returns-in-Id-Some-clause-entry
returns-in-Id-Some-clause-entry c =
    let line = part c.args.text.now c.args.line in
    let is : c.args.wanted.now ≡ Id (Some c.in-Id-Some.gid) = c.in-Id-Some.is ∙ ap Id (rw c.in-Id-Some.is at c.in-Id-Some.field-0-is) in
    group_given c.args.text.now (λ g. g.gid == c.in-Id-Some.gid) c.args.line _ c.group_numbered.ensures.ordered c.requires c.group_numbered.ensures.given
    ∙ ap (λ wanted. if_named (is_wanted group_accounts wanted) (group_of_line line)) (sym is)
