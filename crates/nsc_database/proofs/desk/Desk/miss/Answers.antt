use Rattle.nsc_shelf.specs.Uses.{counted}
use Rattle.nsc_database.proofs.Rests.{rests_missed}
use Rattle.nsc_database.proofs.Standing.{at_rest_on}
use Rattle.nsc_database.proofs.desk.Desk.miss.Goals as goal

pub invariant_of-self : goal.invariant_of-self
invariant_of-self g c = at_rest_on c.self.inside.left c.self.inside.writer c.miss.new.self (rests_missed (counted c.args.not_found c.self.inside.writer.misses) c.self.inside.writer c.miss.new.self c.miss.ensures) c.self.invariant
