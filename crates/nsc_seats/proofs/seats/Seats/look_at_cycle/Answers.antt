use Rattle.nsc_seats.proofs.Along.{seats_shown}
use Rattle.nsc_seats.proofs.seats.Seats.look_at_cycle.Goals as goal

pub invariant_of-self : goal.invariant_of-self
invariant_of-self c = seats_shown c.self.inside.former.items c.self.inside.present c.look_at_cycle.new.self c.self.invariant c.look_at_cycle.ensures.table c.look_at_cycle.ensures.before
