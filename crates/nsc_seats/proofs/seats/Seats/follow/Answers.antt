use Rattle.std.proofs.Common.{ap, subst, sym}
use Rattle.nsc_model.specs.History.{IsPrefix}
use Rattle.nsc_rule.specs.Pass.{Pass}
use Rattle.nsc_writer.proofs.Later.{prefix_through}
use Rattle.nsc_seats.specs.Seats.{Seats}
use Rattle.nsc_seats.proofs.Along.{seats_shown}
use Rattle.nsc_seats.proofs.seats.Seats.follow.Goals as goal

pub invariant_of-self-2 : goal.invariant_of-self-2
invariant_of-self-2 c =
    let present = c.go_on.new.present in
    seats_shown c.go_on.new.former.items present c.show.new.self c.in_ok-go_on.ensures.seats (ap (λ (p : Pass). p.table) c.show.ensures.seat) (subst (IsPrefix present.seen) (sym (ap (λ (p : Pass). p.seen) c.show.ensures.seat)) c.show.ensures.before)

pub returns-clause-before : goal.returns-clause-before
returns-clause-before c =
    let present = c.go_on.new.present in
    let was = subst (λ h. IsPrefix h present.seen) (ap (λ (s : Seats). s.seen) c.self.view_is) c.in_ok-go_on.ensures.before in
    let more = subst (IsPrefix present.seen) (sym (ap (λ (p : Pass). p.seen) c.show.ensures.seat)) c.show.ensures.before in
    prefix_through c.args.self.now.seen present.seen c.show.new.self.seen was more
