use Rattle.std.proofs.Common.{ap, subst, sym}
use Rattle.nsc_model.specs.History.{IsPrefix}
use Rattle.nsc_rule.specs.Pass.{Pass}
use Rattle.nsc_seats.proofs.Along.{seats_shown}
use Rattle.nsc_seats.proofs.seats.Seats.show.Goals as goal

pub invariant_of-self : goal.invariant_of-self
invariant_of-self c =
    let present = c.self.inside.present in
    seats_shown c.self.inside.former.items present c.show.new.self c.self.invariant (ap (λ (p : Pass). p.table) c.show.ensures.seat) (subst (IsPrefix present.seen) (sym (ap (λ (p : Pass). p.seen) c.show.ensures.seat)) c.show.ensures.before)
