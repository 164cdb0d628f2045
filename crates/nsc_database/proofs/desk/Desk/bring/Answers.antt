use Rattle.nsc_database.proofs.Standing.{at_rest_kept}
use Rattle.nsc_database.proofs.desk.Desk.bring.Goals as goal

pub invariant_of-self : goal.invariant_of-self
invariant_of-self g c = at_rest_kept c.self.inside.left c.follow.new.left c.self.inside.writer c.follow.new.writer c.follow.ensures.left c.follow.ensures.writer c.self.invariant
