use Rattle.std.proofs.Common.{◌≡◌, ◌∙◌, ap, arith, decimal, drop}
use Rattle.std.proofs.lemmas.List.{take_rest}
use Rattle.nsc_addr.proofs.Numerals.{three_digits, below_ten, below_hundred, below_thousand}
use Rattle.nsc_addr.proofs.Printed.{with_text}
use Rattle.nsc_addr.proofs.print.push_octet.Goals as goal
use Rattle.nsc_addr.proofs.print.push_octet.Goals.{in_default, in-10-to-255, in-100-to-255}

pub returns-clause-text : goal.returns-clause-text
returns-clause-text c =
    let text : drop c.if-octet-lt10.zeros (three_digits c.args.octet) ≡ decimal c.args.octet = elim c.if-octet-lt10.branch [
      | in_default w ↦ below_ten c.args.octet c.if-octet-lt10.zeros (omega arith) w.zeros-is
      | in-10-to-255 w ↦ below_hundred c.args.octet c.if-octet-lt10.zeros (omega arith) (omega arith) w.zeros-is
      | in-100-to-255 w ↦ below_thousand c.args.octet c.if-octet-lt10.zeros (omega arith) (omega arith) w.zeros-is
    ] in
    c.push.ensures ∙ ap (with_text c.args.out.now) (take_rest (three_digits c.args.octet) c.if-octet-lt10.zeros ∙ text)
