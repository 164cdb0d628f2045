use Rattle.std.proofs.Common.{◌≡◌, true, false, sym, ◌∙◌, ap}
use Rattle.nsc_base.specs.Text.{part, trimmed}
use Rattle.nsc_accounts.proofs.Named.{unnamed, group_names}
use Rattle.nsc_accounts.proofs.find.group_named.Goals as goal

pub returns-then-not-begins_with_name-clause-given : goal.returns-then-not-begins_with_name-clause-given
returns-then-not-begins_with_name-clause-given c =
    sym (unnamed (part c.args.text.now c.args.line) c.args.name.now _ _ _ (group_names c.args.text.now c.args.line c.of.ensures.ordered c.requires) (λ there.
    let begins : false ≡ true = c.if-not-begins_with_name.ensures.1 (there.0, ap trimmed c.of.ensures.bytes ∙ there.1) in
    cc))
