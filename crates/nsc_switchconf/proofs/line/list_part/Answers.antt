use Rattle.std.proofs.Common.{None, Some, sym, ap, ◌∙◌}
use Rattle.std.specs.Option.{option_copied}
use Rattle.nsc_switchconf.proofs.Parts.{part_is, unnamed}
use Rattle.nsc_switchconf.proofs.line.list_part.Goals as goal

pub returns-in_err-after_name : goal.returns-in_err-after_name
returns-in_err-after_name c =
    ap option_copied c.from_residual.ensures
    ∙ sym (unnamed c.args.name c.args.line.now _ _ c.trim_front.ensures.rest c.name_bytes.ensures c.in_err-after_name.ensures.cases)

pub returns-in_err-after_colon : goal.returns-in_err-after_colon
returns-in_err-after_colon c =
    ap option_copied c.from_residual-in_err-after_colon.ensures
    ∙ sym (part_is c.args.name c.args.line.now _ _ c.in_ok-after_name.after_name c.trim_front-2.result.now None c.trim_front.ensures.rest c.name_bytes.ensures c.in_ok-after_name.ensures.cases c.trim_front-2.ensures.rest c.in_err-after_colon.ensures.cases)

pub returns : goal.returns
returns c =
    ap Some c.before_remark.ensures
    ∙ sym (part_is c.args.name c.args.line.now _ _ c.in_ok-after_name.after_name c.trim_front-2.result.now (Some c.in_ok-after_colon.after_colon) c.trim_front.ensures.rest c.name_bytes.ensures c.in_ok-after_name.ensures.cases c.trim_front-2.ensures.rest c.in_ok-after_colon.ensures.cases)
