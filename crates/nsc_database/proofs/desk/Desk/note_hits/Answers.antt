use Rattle.nsc_writer.specs.Raised.{raised}
use Rattle.nsc_database.proofs.Rests.{rests_raised}
use Rattle.nsc_database.proofs.Standing.{at_rest_on}
use Rattle.nsc_database.proofs.desk.Desk.note_hits.Goals as goal

pub invariant_of-self : goal.invariant_of-self
invariant_of-self g c = at_rest_on c.self.inside.left c.self.inside.writer c.note_hits.new.self (rests_raised (raised c.args.found c.args.not_found c.self.inside.writer.hits) c.self.inside.writer c.note_hits.new.self c.note_hits.ensures) c.self.invariant
