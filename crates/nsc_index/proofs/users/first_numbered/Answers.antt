use Rattle.std.proofs.Common.{◌==◌, get_or, sym}
use Rattle.std.proofs.lemmas.List.{get_or_default}
use Rattle.nsc_accounts.specs.Passwd.{user_places}
use Rattle.nsc_index.specs.Indexes.{on_line}
use Rattle.nsc_index.proofs.LineRows.{left_here, left_next}
use Rattle.nsc_index.proofs.users.first_numbered.Goals as goal

pub returns-in-Some-clause-entry : goal.returns-in-Some-clause-entry
returns-in-Some-clause-entry c =
    let text = c.args.text.now in
    let places = c.args.places.now in
    let place = get_or places c.loop-place.place-index 0 in
    left_here (on_line (user_places text) text) (λ at. at.uid == c.args.uid) places c.loop-place.place-index place _ _ c.loop-place-test.true (get_or_default places c.loop-place.place-index 0 place c.loop-place-test.true) (sym c.in-Some.ensures.entry) c.loop-place.invariant

pub loop-place-preserved : goal.loop-place-preserved
loop-place-preserved c =
    let text = c.args.text.now in
    let places = c.args.places.now in
    let place = get_or places c.loop-place.place-index 0 in
    left_next (on_line (user_places text) text) (λ at. at.uid == c.args.uid) places c.loop-place.place-index place _ c.loop-place-test.true (get_or_default places c.loop-place.place-index 0 place c.loop-place-test.true) (sym c.in_default.ensures.entry) c.loop-place.invariant
