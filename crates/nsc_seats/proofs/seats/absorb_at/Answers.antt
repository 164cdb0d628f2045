use Rattle.std.proofs.Common.{◌≡◌, ◌∙◌, suc, ◌+◌, get_or, ap, arith, refl, subst, sym}
use Rattle.std.specs.Prelude.{IsSome}
use Rattle.std.proofs.lemmas.List.Elements.{All-get_or}
use Rattle.nsc_model.specs.History.{IsPrefix}
use Rattle.nsc_rule.specs.Pass.{Pass}
use Rattle.nsc_writer.proofs.Later.{prefix_through}
use Rattle.nsc_seats.specs.Seats.{seated}
use Rattle.nsc_seats.proofs.Along.{seat_next, seats_set}
use Rattle.nsc_seats.proofs.seats.absorb_at.Goals as goal

pub absorb-requires-clause-retired : goal.absorb-requires-clause-retired
absorb-requires-clause-retired c =
    let seat = c.index_mut.result.now in
    subst IsSome (sym (ap (λ (p : Pass). p.retired) c.index_mut.ensures.value ∙ seat_next c.args.seats.now.items c.args.present.now seat c.args.present.now.table c.args.number c.requires.seats c.requires.within)) refl

pub returns-clause-seats : goal.returns-clause-seats
returns-clause-seats c =
    let seats = c.args.seats.now.items in
    let seat = c.index_mut.result.now in
    let less = subst (λ (p : Pass). IsPrefix p.seen c.args.present.now.seen) (sym c.index_mut.ensures.value) (All-get_or (λ (p : Pass). IsPrefix p.seen c.args.present.now.seen) seats c.args.number seat c.requires.within c.requires.seats.less) in
    (seats_set seats c.args.present.now seat c.absorb.new.self c.args.number c.requires.seats c.index_mut.ensures.value (ap (λ (p : Pass). p.table) c.absorb.ensures.seat) (ap (λ (p : Pass). p.retired) c.absorb.ensures.seat)
    (subst (λ h. IsPrefix h c.args.present.now.seen) (sym (ap (λ (p : Pass). p.seen) c.absorb.ensures.seat)) less)).seats

pub returns-clause-tables : goal.returns-clause-tables
returns-clause-tables c =
    let seats = c.args.seats.now.items in
    let seat = c.index_mut.result.now in
    let less = subst (λ (p : Pass). IsPrefix p.seen c.args.present.now.seen) (sym c.index_mut.ensures.value) (All-get_or (λ (p : Pass). IsPrefix p.seen c.args.present.now.seen) seats c.args.number seat c.requires.within c.requires.seats.less) in
    (seats_set seats c.args.present.now seat c.absorb.new.self c.args.number c.requires.seats c.index_mut.ensures.value (ap (λ (p : Pass). p.table) c.absorb.ensures.seat) (ap (λ (p : Pass). p.retired) c.absorb.ensures.seat)
    (subst (λ h. IsPrefix h c.args.present.now.seen) (sym (ap (λ (p : Pass). p.seen) c.absorb.ensures.seat)) less)).tables

pub returns-clause-next : goal.returns-clause-next
returns-clause-next c newer is =
    let seats = c.args.seats.now.items in
    let seat = c.index_mut.result.now in
    let on = ap (λ (p : Pass). p.retired) c.index_mut.ensures.value ∙ seat_next seats c.args.present.now seat c.args.present.now.table c.args.number c.requires.seats c.requires.within in
    let next : suc c.args.number ≡ c.args.number + 1 = omega arith in
    c.absorb.ensures.one newer _ is on ∙ ap (λ n. get_or (seated seats c.args.present.now) n c.args.present.now.table) next

pub returns-clause-less : goal.returns-clause-less
returns-clause-less c =
    let seats = c.args.seats.now.items in
    let seat = c.index_mut.result.now in
    let less = subst (λ (p : Pass). IsPrefix p.seen c.args.present.now.seen) (sym c.index_mut.ensures.value) (All-get_or (λ (p : Pass). IsPrefix p.seen c.args.present.now.seen) seats c.args.number seat c.requires.within c.requires.seats.less) in
    prefix_through c.args.other.now.seen seat.seen c.args.present.now.seen c.absorb.ensures.other less
