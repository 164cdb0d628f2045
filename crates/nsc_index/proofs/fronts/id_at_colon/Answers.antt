use Rattle.std.proofs.Common.{rules, ◌≡◌, ◌+◌, ◌-◌, ◌*◌, ◌^◌, ◌%◌, ◌<◌, ◌≤◌, ◌==◌, ◌∙◌, false, length, get_or, refl, sym, ap, arith}
use Rattle.std.specs.Char.{is_ascii_digit}
use Rattle.std.proofs.lemmas.Bool.{ne_eqb}
use Rattle.std.proofs.lemmas.List.Folds.{list_all_more}
use borrow.Author.Count.{below_more}
use Rattle.nsc_base.proofs.Digits.{value-more}
use Rattle.nsc_index.proofs.FirstColons.{colon_apart, colon_there, is_digit, large_id, no_colon, no_digit, other_byte, whole_id}
use Rattle.nsc_index.proofs.fronts.id_at_colon.Goals as goal

pub returns-then-byte-ne58 : goal.returns-then-byte-ne58
returns-then-byte-ne58 c =
    let bytes = c.args.bytes.now in
    let place = c.loop-place.place in
    let small : get_or bytes place 0 < 256 = search rules in
    let high : 9 < (get_or bytes place 0 + 208) % 256 = search rules in
    let other = no_digit (get_or bytes place 0) _ small refl high in
    sym (other_byte bytes place (omega arith) c.loop-place.invariant.front (ne_eqb (get_or bytes place 0) 58 c.if-byte-ne58.true) other)

pub returns-else-place-eq0 : goal.returns-else-place-eq0
returns-else-place-eq0 c =
    let bytes = c.args.bytes.now in
    let place = c.loop-place.place in
    let there = colon_there bytes place (omega arith) c.loop-place.invariant.front c.if-byte-ne58.false in
    whole_id bytes place c.loop-place.id (omega arith) there (ne_eqb place 0 c.if-place-eq0.false) c.loop-place.invariant.small c.loop-place.invariant.spelled c.loop-place.invariant.digits

pub returns-then-id-from : goal.returns-then-id-from
returns-then-id-from c =
    let bytes = c.args.bytes.now in
    let place = c.loop-place.place in
    let inside : place < length bytes = omega arith in
    let small : get_or bytes place 0 < 256 = search rules in
    let low : (get_or bytes place 0 + 208) % 256 ≤ 9 = search rules in
    let digit = is_digit (get_or bytes place 0) _ small refl low in
    let large : 2 ^ 32 ≤ c.loop-place.id * 10 + (get_or bytes place 0 - 48) = omega (arith, digit.1, c.from.ensures, c.from-in-loop-place.ensures) in
    sym (large_id bytes place c.loop-place.id inside c.loop-place.invariant.front (colon_apart (get_or bytes place 0) digit.0) c.loop-place.invariant.spelled large)

pub loop-place-preserved : goal.loop-place-preserved
loop-place-preserved c =
    let bytes = c.args.bytes.now in
    let place = c.loop-place.place in
    let inside : place < length bytes = omega arith in
    let small : get_or bytes place 0 < 256 = search rules in
    let low : (get_or bytes place 0 + 208) % 256 ≤ 9 = search rules in
    let digit = is_digit (get_or bytes place 0) _ small refl low in
    let more = value-more bytes place inside in
    let all = list_all_more is_ascii_digit bytes place 0 inside in
    record {
      front = below_more (λ k. (get_or bytes k 0 == 58) ≡ false) place c.loop-place.invariant.front (colon_apart (get_or bytes place 0) digit.0);
      small = omega (arith, c.from.ensures, c.from-in-loop-place.ensures);
      spelled = omega (arith, more, digit.1, c.loop-place.invariant.spelled, c.from.ensures);
      digits = rw (all, c.loop-place.invariant.digits, digit.0) refl;
    }

pub returns-else-is_empty : goal.returns-else-is_empty
returns-else-is_empty c =
    let bytes = c.args.bytes.now in
    let place = c.loop-place.place in
    let end : place ≡ length bytes = omega arith in
    let none = no_colon bytes place (omega arith) c.loop-place.invariant.front in
    whole_id bytes place c.loop-place.id (omega arith) (none ∙ sym end) (ap (λ n. n == 0) end ∙ sym c.is_empty.ensures ∙ c.if-is_empty.false) c.loop-place.invariant.small c.loop-place.invariant.spelled c.loop-place.invariant.digits
