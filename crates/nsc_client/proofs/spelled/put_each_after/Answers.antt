use Rattle.std.proofs.Common.{◌∙◌, ◌∷◌, ◌++◌, ◌+◌, ◌<◌, ◌≤◌, ℕ, List, [], ap, append-nil, arith, drop, flat_map, get_or, length, sym}
use Rattle.std.proofs.lemmas.List.{drop_all}
use Rattle.nsc_model.specs.Wire.{text}
use Rattle.nsc_client.proofs.LentRows.{next_lent, put_more}
use Rattle.nsc_client.proofs.spelled.put_each_after.Goals as goal

pub loop-at-preserved : goal.loop-at-preserved
loop-at-preserved c = λ all. λ lends.
    let at = c.loop-at.at in
    let out = c.loop-at.out.items in
    let inv = c.loop-at.invariant all lends in
    let test = c.loop-at-test.true in
    let size = lends.counted in
    let low : at < length all = omega arith in
    let next = c.next_text.ensures (get_or all at []) (flat_map text (drop (at + 1) all) ++ lends.rest) (lends.are_texts at [] low) (next_lent at c.loop-at.rest.now lends.rest all low inv.0) in
    (next.1, put_more c.args.separator at out c.put_after.new.out.items all low (c.in_ok-put_after.ensures ∙ ap (λ (t : List ℕ). out ++ c.args.separator ∷ t) next.0) ∙ inv.1)

pub returns : goal.returns
returns c = λ all. λ lends.
    let at = c.loop-at.at in
    let out = c.loop-at.out.items in
    let inv = c.loop-at.invariant all lends in
    let test = c.loop-at-test.false in
    let size = lends.counted in
    let past : length all ≤ at = omega arith in
    sym (append-nil out) ∙ ap (λ (l : List (List ℕ)). out ++ flat_map (λ one. c.args.separator ∷ one) l) (sym (drop_all at all past)) ∙ inv.1
