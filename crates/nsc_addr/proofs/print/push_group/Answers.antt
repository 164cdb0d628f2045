use Rattle.std.proofs.Common.{◌≡◌, ◌∙◌, ap, arith, drop, List, [], ◌∷◌, ℕ, false}
use Rattle.std.specs.Fmt.{digits}
use Rattle.std.proofs.lemmas.List.{take_rest}
use Rattle.nsc_addr.proofs.Numerals.{four_digits, below_0x10, below_0x100, below_0x1000, below_0x10000}
use Rattle.nsc_addr.proofs.Printed.{with_text}
use Rattle.nsc_addr.proofs.print.push_group.Goals as goal
use Rattle.nsc_addr.proofs.print.push_group.Goals.{in_default, in-16-to-65535, in-256-to-65535, in-4096-to-65535}

pub returns-clause-text : goal.returns-clause-text
returns-clause-text c =
    let text : drop c.if-group-lt16.zeros (four_digits c.args.group) ≡ digits 16 false c.args.group = elim c.if-group-lt16.branch [
      | in_default w ↦ below_0x10 c.args.group c.if-group-lt16.zeros (omega arith) w.zeros-is
      | in-16-to-65535 w ↦ below_0x100 c.args.group c.if-group-lt16.zeros (omega arith) (omega arith) w.zeros-is
      | in-256-to-65535 w ↦ below_0x1000 c.args.group c.if-group-lt16.zeros (omega arith) (omega arith) w.zeros-is
      | in-4096-to-65535 w ↦ below_0x10000 c.args.group c.if-group-lt16.zeros (omega arith) (omega arith) w.zeros-is
    ] in
    let written : c.hex_digit.result ∷ c.hex_digit-2.result ∷ c.hex_digit-3.result ∷ c.hex_digit-4.result ∷ [] ≡ four_digits c.args.group =
    (λ i. c.hex_digit.ensures i ∷ c.hex_digit-2.ensures i ∷ c.hex_digit-3.ensures i ∷ c.hex_digit-4.ensures i ∷ []) in
    let all : List ℕ = c.hex_digit.result ∷ c.hex_digit-2.result ∷ c.hex_digit-3.result ∷ c.hex_digit-4.result ∷ [] in
    c.push.ensures ∙ ap (with_text c.args.out.now) (take_rest all c.if-group-lt16.zeros ∙ ap (drop c.if-group-lt16.zeros) written ∙ text)
