use Rattle.std.proofs.Common.{ap, ◌∙◌}
use Rattle.std.specs.Option.{option_map}
use Rattle.nsc_accounts.specs.Group.{GroupLiesIn, group_at}
use Rattle.nsc_accounts.proofs.Entries.{entry_lies, group_is, group_stands, no_group}
use Rattle.nsc_accounts.proofs.group.group_line.Goals as goal

pub returns-in_err-line_fields-clause-places : goal.returns-in_err-line_fields-clause-places
returns-in_err-line_fields-clause-places c = c.from_residual.ensures ∙ no_group c.args.text.now c.args.line c.in_err-line_fields.ensures.fields

pub returns-in_err-line_fields-clause-entry : goal.returns-in_err-line_fields-clause-entry
returns-in_err-line_fields-clause-entry c =
    ap (option_map (group_at c.args.text.now)) (c.from_residual.ensures ∙ no_group c.args.text.now c.args.line c.in_err-line_fields.ensures.fields)
    ∙ group_stands c.args.text.now c.args.line c.in_err-line_fields.ensures.ordered c.requires

pub returns-clause-places : goal.returns-clause-places
returns-clause-places c = c.group_entry.ensures.places ∙ group_is c.args.text.now c.args.line _ c.in_ok-line_fields.ensures.fields

pub returns-clause-entry : goal.returns-clause-entry
returns-clause-entry c =
    ap (option_map (group_at c.args.text.now)) (c.group_entry.ensures.places ∙ group_is c.args.text.now c.args.line _ c.in_ok-line_fields.ensures.fields)
    ∙ group_stands c.args.text.now c.args.line c.in_ok-line_fields.ensures.ordered c.requires

pub returns-clause-inside : goal.returns-clause-inside
returns-clause-inside c = entry_lies GroupLiesIn c.args.line _ c.group_entry.result c.in_ok-line_fields.ensures.inside c.group_entry.ensures.inside
