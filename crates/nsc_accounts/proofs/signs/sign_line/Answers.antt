use Rattle.std.proofs.Common.{ap, ◌∙◌}
use Rattle.std.specs.Option.{option_map}
use Rattle.nsc_base.specs.Text.{part}
use Rattle.nsc_accounts.proofs.SignLines.{no_sign}
use Rattle.nsc_accounts.proofs.signs.sign_line.Goals as goal

pub returns-in_err-name-clause-name : goal.returns-in_err-name-clause-name
returns-in_err-name-clause-name c =
    let text = c.args.text.now in
    ap (option_map (part text)) c.from_residual.ensures ∙ no_sign (part text c.args.line) (part text c.trim_front.result) c.trim_front.ensures.bytes (c.in_err-name.ensures.name (part text c.args.line))
