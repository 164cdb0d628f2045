use Rattle.std.proofs.Common.{sym, ◌∙◌}
use Rattle.nsc_base.specs.Text.{part}
use Rattle.nsc_accounts.proofs.Named.{group_names, no_id, other_id, same_id}
use Rattle.nsc_accounts.proofs.find.group_numbered.Goals as goal

pub returns-in_err-id-clause-given : goal.returns-in_err-id-clause-given
returns-in_err-id-clause-given c =
    c.from_residual.ensures ∙ sym (no_id (part c.args.text.now c.args.line) c.args.gid _ _ _ (group_names c.args.text.now c.args.line c.in_err-id.ensures.ordered c.requires) c.in_err-id.ensures.id)

pub returns-else-id-gid-clause-given : goal.returns-else-id-gid-clause-given
returns-else-id-gid-clause-given c =
    sym (other_id (part c.args.text.now c.args.line) _ c.args.gid _ _ _ (group_names c.args.text.now c.args.line c.in_ok-id.ensures.ordered c.requires) c.in_ok-id.ensures.id c.if-id-gid.false)

pub returns-then-id-gid-clause-given : goal.returns-then-id-gid-clause-given
returns-then-id-gid-clause-given c =
    c.group_line.ensures.places ∙ sym (same_id (part c.args.text.now c.args.line) _ c.args.gid _ _ _ (group_names c.args.text.now c.args.line c.in_ok-id.ensures.ordered c.requires) c.in_ok-id.ensures.id c.if-id-gid.true)
