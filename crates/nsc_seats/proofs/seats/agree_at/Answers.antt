use Rattle.std.proofs.Common.{◌≡◌, ◌∙◌, suc, ◌+◌, ◌<◌, List, length, get_or, ap, arith, rules, subst, sym}
use Rattle.std.proofs.lemmas.Option.{none-some}
use Rattle.nsc_rule.specs.Pass.{Pass}
use Rattle.nsc_writer.specs.Former.{Former}
use Rattle.nsc_seats.specs.Seats.{AreAt}
use Rattle.nsc_seats.proofs.Along.{along, seat_next}
use Rattle.nsc_seats.proofs.seats.agree_at.Goals as goal

pub unreachable-requires : goal.unreachable-requires
unreachable-requires c =
    let seat = c.index_mut-seat.result.now in
    let on = seat_next c.args.former.now.items c.args.present.now seat c.args.writer.now.table c.args.number c.requires.seats c.requires.within in
    none-some _ (sym c.show.ensures.active ∙ ap (λ (p : Pass). p.retired) c.index_mut-seat.ensures.value ∙ on)

pub returns-clause-next : goal.returns-clause-next
returns-clause-next c =
    let former = c.args.former.now.items in
    let left = c.args.left.now in
    let newest = c.args.writer.now.table in
    let seat = c.index_mut-seat.result.now in
    let table = c.index_mut.result.now in
    let there : table ≡ get_or left c.args.number table = c.index_mut.ensures.value ∙ ap (λ (l : List Former). get_or l c.args.number table) c.left.view_is in
    let fewer : c.args.number < length left = search rules in
    let next = along former c.args.present.now seat left table newest c.args.number c.requires.seats c.requires.chain c.requires.within fewer (λ newer is. c.agree.ensures.newer newer (ap (λ (p : Pass). p.retired) c.index_mut-seat.ensures.value ∙ is) ∙ ap (λ (f : Former). f.newer.table) there) in
    let count : suc c.args.number ≡ c.args.number + 1 = omega arith in
    subst (λ n. AreAt n former c.args.present.now left newest) count next
