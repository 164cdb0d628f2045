use Rattle.std.proofs.Common.{◌≡◌, ◌+◌, ◌<◌, ◌==◌, ◌∙◌, false, length, drop, take, get_or, refl, sym, ap, arith}
use Rattle.std.proofs.lemmas.Bool.{ne_eqb}
use Rattle.std.proofs.lemmas.List.{take_rest}
use Rattle.std.proofs.lemmas.List.Sums.{fold_more}
use borrow.Author.Count.{below_more}
use Rattle.nsc_index.specs.Numbers.{number_with, text_number}
use Rattle.nsc_index.proofs.FirstColons.{all_after, colon_there, no_colon}
use Rattle.nsc_index.proofs.fronts.number_at_colon.Goals as goal

pub loop-place-init : goal.loop-place-init
unfolding text_number
loop-place-init c = record { front = λ k below. absurd (omega arith); number = refl }

pub loop-place-preserved : goal.loop-place-preserved
unfolding text_number
loop-place-preserved c =
    let bytes = c.args.bytes.now in
    let place = c.loop-place.place in
    let inside : place < length bytes = omega arith in
    record {
      front = below_more (λ k. (get_or bytes k 0 == 58) ≡ false) place c.loop-place.invariant.front (ne_eqb (get_or bytes place 0) 58 c.if-byte-eq58.false);
      number = c.number_with-number.ensures ∙ ap (λ n. number_with n (get_or bytes place 0)) c.loop-place.invariant.number ∙ sym (fold_more number_with 0 bytes place 0 inside);
    }

pub returns-then-byte-eq58-clause-number : goal.returns-then-byte-eq58-clause-number
returns-then-byte-eq58-clause-number c =
    let bytes = c.args.bytes.now in
    let there = colon_there bytes c.loop-place.place (omega arith) c.loop-place.invariant.front c.if-byte-eq58.true in
    c.loop-place.invariant.number ∙ ap (λ n. text_number (take n bytes)) (sym there)

pub returns-then-byte-eq58-clause-rest : goal.returns-then-byte-eq58-clause-rest
returns-then-byte-eq58-clause-rest c =
    let bytes = c.args.bytes.now in
    let there = colon_there bytes c.loop-place.place (omega arith) c.loop-place.invariant.front c.if-byte-eq58.true in
    take_rest bytes (c.loop-place.place + 1) ∙ ap (λ n. drop (n + 1) bytes) (sym there)

pub returns : goal.returns
returns c =
    let bytes = c.args.bytes.now in
    let place = c.loop-place.place in
    let end : place ≡ length bytes = omega arith in
    let none = no_colon bytes place (omega arith) c.loop-place.invariant.front in
    record {
      number = c.loop-place.invariant.number ∙ ap (λ n. text_number (take n bytes)) (end ∙ sym none);
      rest = sym (all_after bytes none);
    }
