use Rattle.nsc_seats.proofs.Along.{seats_shown}
use Rattle.nsc_seats.proofs.seats.Seats.meet.Goals as goal

pub invariant_of-self-else-number-len : goal.invariant_of-self-else-number-len
invariant_of-self-else-number-len c = seats_shown c.absorb.new.seats.items c.self-2.inside.present c.meet.new.self c.absorb.ensures.seats c.meet.ensures.table c.meet.ensures.before
