use Rattle.std.proofs.Common.{◌∙◌}
use Rattle.clap.specs.Words.{found_of}
use Rattle.nsc_run.proofs.Matched.{first_of_rows}
use Rattle.nsc_run.proofs.form.value.Goals as goal

pub returns : goal.returns
returns c = c.get_str.ensures ∙ first_of_rows (found_of c.args.matches.now) c.args.name.now
