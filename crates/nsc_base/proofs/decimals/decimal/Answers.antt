use Rattle.std.proofs.Common.{rules, refl, ◌≡◌, ◌+◌, ◌-◌, ◌*◌, ◌^◌, ◌<◌, ◌≤◌, true, length, get_or, sym, ◌∙◌, arith}
use Rattle.std.specs.Char.{is_ascii_digit}
use Rattle.std.proofs.lemmas.List.Folds.{list_all_more}
use Rattle.nsc_base.proofs.Digits.{decimal-past, decimal-done, value-more}
use Rattle.nsc_base.proofs.decimals.decimal.Goals as goal

pub returns-in_err-checked_mul : goal.returns-in_err-checked_mul
returns-in_err-checked_mul c =
    let inside : c.loop-byte.byte-index < length c.args.text.now = omega arith in
    let large : 2 ^ 32 ≤ c.loop-byte.value * 10 + (get_or c.args.text.now c.loop-byte.byte-index 0 - 48) = omega (arith, c.in_err-checked_mul.ensures) in
    c.from_residual.ensures ∙ sym (decimal-past c.args.text.now c.loop-byte.byte-index c.loop-byte.value inside c.loop-byte.invariant.spelled large)

pub returns-in_err-value : goal.returns-in_err-value
returns-in_err-value c =
    let inside : c.loop-byte.byte-index < length c.args.text.now = omega arith in
    let large : 2 ^ 32 ≤ c.loop-byte.value * 10 + (get_or c.args.text.now c.loop-byte.byte-index 0 - 48) = omega (arith, c.in_err-value.ensures, c.in_ok-checked_mul.ensures, c.from.ensures) in
    c.from_residual-in_err-value.ensures ∙ sym (decimal-past c.args.text.now c.loop-byte.byte-index c.loop-byte.value inside c.loop-byte.invariant.spelled large)

pub loop-byte-preserved : goal.loop-byte-preserved
loop-byte-preserved c =
    let inside : c.loop-byte.byte-index < length c.args.text.now = omega arith in
    let more = value-more c.args.text.now c.loop-byte.byte-index inside in
    let digit : is_ascii_digit (get_or c.args.text.now c.loop-byte.byte-index 0) ≡ true = search rules in
    let all = list_all_more is_ascii_digit c.args.text.now c.loop-byte.byte-index 0 inside in
    record {
      small = omega (arith, c.in_ok-value.ensures);
      spelled = omega (arith, more, c.loop-byte.invariant.spelled, c.in_ok-value.ensures, c.in_ok-checked_mul.ensures, c.from.ensures);
      digits = rw (all, c.loop-byte.invariant.digits, digit) refl;
    }

pub returns : goal.returns
returns c =
    let past : length c.args.text.now ≤ c.loop-byte.byte-index = omega arith in
    decimal-done c.args.text.now c.loop-byte.byte-index c.loop-byte.value (sym c.is_empty.ensures ∙ c.if-is_empty.false) past c.loop-byte.invariant.small c.loop-byte.invariant.spelled c.loop-byte.invariant.digits
