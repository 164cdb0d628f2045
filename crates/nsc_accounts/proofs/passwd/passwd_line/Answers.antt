use Rattle.std.proofs.Common.{ap, ◌∙◌}
use Rattle.std.specs.Option.{option_map}
use Rattle.nsc_accounts.specs.Passwd.{UserLiesIn, user_at}
use Rattle.nsc_accounts.proofs.Entries.{entry_lies, user_is, user_stands, no_user}
use Rattle.nsc_accounts.proofs.passwd.passwd_line.Goals as goal

pub returns-in_err-line_fields-clause-places : goal.returns-in_err-line_fields-clause-places
returns-in_err-line_fields-clause-places c = c.from_residual.ensures ∙ no_user c.args.text.now c.args.line c.in_err-line_fields.ensures.fields

pub returns-in_err-line_fields-clause-entry : goal.returns-in_err-line_fields-clause-entry
returns-in_err-line_fields-clause-entry c =
    ap (option_map (user_at c.args.text.now)) (c.from_residual.ensures ∙ no_user c.args.text.now c.args.line c.in_err-line_fields.ensures.fields)
    ∙ user_stands c.args.text.now c.args.line c.in_err-line_fields.ensures.ordered c.requires

pub returns-clause-places : goal.returns-clause-places
returns-clause-places c = c.entry_of.ensures.places ∙ user_is c.args.text.now c.args.line _ c.in_ok-line_fields.ensures.fields

pub returns-clause-entry : goal.returns-clause-entry
returns-clause-entry c =
    ap (option_map (user_at c.args.text.now)) (c.entry_of.ensures.places ∙ user_is c.args.text.now c.args.line _ c.in_ok-line_fields.ensures.fields)
    ∙ user_stands c.args.text.now c.args.line c.in_ok-line_fields.ensures.ordered c.requires

pub returns-clause-inside : goal.returns-clause-inside
returns-clause-inside c = entry_lies UserLiesIn c.args.line _ c.entry_of.result c.in_ok-line_fields.ensures.inside c.entry_of.ensures.inside
