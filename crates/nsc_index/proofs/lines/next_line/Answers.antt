use Rattle.std.proofs.Common.{◌≡◌, ◌<◌, ℕ, true, length, slice_range, get_or, refl, subst, sym, arith}
use Rattle.std.specs.List.{position_or_len}
use Rattle.std.proofs.lemmas.List.Sums.{fails_before_first, passes_at_first}
use Rattle.nsc_base.proofs.Places.{line-found}
use Rattle.nsc_index.specs.Looks.{is_newline}
use Rattle.nsc_index.proofs.lines.next_line.Goals as goal

pub returns-in-Some-clause-line : goal.returns-in-Some-clause-line
returns-in-Some-clause-line c =
    let text = c.args.text.now in
    let from = c.args.from in
    let place = c.in-Some.place in
    let rest = slice_range text from (length text) in
    let first : place ≡ position_or_len is_newline rest = c.in-Some.ensures.first in
    let inside : place < length rest = c.in-Some.ensures.inside in
    let here : is_newline (get_or rest place 0) ≡ true = subst (λ (n : ℕ). is_newline (get_or rest n 0) ≡ true) (sym first) (passes_at_first is_newline rest 0 (omega arith)) in
    line-found text from place _ c.new.ensures refl (record { low = omega arith; high = inside; before = λ k low below is. absurd (cc (fails_before_first is_newline rest k 0 (omega arith))) }, here)
