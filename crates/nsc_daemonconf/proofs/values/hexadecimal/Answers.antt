use Rattle.std.proofs.Common.{◌≡◌, ◌<◌, length, get_or, refl, ap, ◌∙◌, arith}
use Rattle.std.specs.Char.{is_ascii_hexdigit, digit_value}
use Rattle.std.proofs.lemmas.Int.Digits.{digits_value_more}
use Rattle.std.proofs.lemmas.List.Folds.{list_all_more}
use Rattle.nsc_daemonconf.proofs.Hexadecimals.{digit_fits, digit_small, is_digit}
use Rattle.nsc_daemonconf.proofs.values.hexadecimal.Goals as goal

pub overflow_mul-number : goal.overflow_mul-number
overflow_mul-number c =
    let few : c.loop-digit.digit-index < 8 = omega arith in
    let fits = digit_fits c.loop-digit.number c.loop-digit.digit-index 0 c.loop-digit.invariant.small few (omega arith) in
    omega arith

pub overflow_add-number : goal.overflow_add-number
overflow_add-number c =
    let few : c.loop-digit.digit-index < 8 = omega arith in
    let value = c.in_ok-number.ensures.value in
    let fits = digit_fits c.loop-digit.number c.loop-digit.digit-index c.in_ok-number.field-0 c.loop-digit.invariant.small few (omega arith) in
    omega arith

pub loop-digit-preserved : goal.loop-digit-preserved
loop-digit-preserved c =
    let digits = c.in_ok-digits.digits.now in
    let i = c.loop-digit.digit-index in
    let inside : i < length digits = omega arith in
    let value = c.in_ok-number.ensures.value in
    let byte : c.from.result ≡ get_or digits i 0 = c.from.ensures in
    let digit : digit_value (get_or digits i 0) < 16 = rw (← byte) value.0 in
    let number : c.in_ok-number.field-0 ≡ digit_value (get_or digits i 0) = value.1 ∙ ap digit_value byte in
    record {
      small = digit_small c.loop-digit.number i c.in_ok-number.field-0 c.loop-digit.invariant.small (rw number digit);
      spelled = omega (arith, digits_value_more 16 digits i inside, c.loop-digit.invariant.spelled);
      digits = rw (list_all_more is_ascii_hexdigit digits i 0 inside, c.loop-digit.invariant.digits, is_digit (get_or digits i 0) digit) refl;
    }
