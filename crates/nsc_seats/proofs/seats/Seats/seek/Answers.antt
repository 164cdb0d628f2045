use Rattle.nsc_seats.proofs.Along.{seats_shown}
use Rattle.nsc_seats.proofs.seats.Seats.seek.Goals as goal

pub invariant_of-self : goal.invariant_of-self
invariant_of-self c = seats_shown c.self.inside.former.items c.self.inside.present c.seek.new.self c.self.invariant c.seek.ensures.table c.seek.ensures.before
