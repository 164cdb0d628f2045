use Rattle.std.proofs.Common.{sym, ap, ◌∙◌}
use Rattle.nsc_model.specs.declared.row.Row.TheVariants as row
use Rattle.nsc_model.specs.Answers.{found_first}
use Rattle.nsc_files.proofs.Numbers.{no_group}
use Rattle.nsc_files.proofs.groups.group_by_id.Goals as goal

pub returns-in_default : goal.returns-in_default
returns-in_default g c = ap (found_first row.Group) (sym (no_group c.args.key.now c.args.text.now (sym c.decimal.ensures ∙ c.in_default.is)))
