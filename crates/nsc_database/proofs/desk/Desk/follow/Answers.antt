use Rattle.nsc_database.proofs.Standing.{at_rest_kept}
use Rattle.nsc_database.proofs.Steady.{steady_followed}
use Rattle.nsc_database.proofs.desk.Desk.follow.Goals as goal

pub invariant_of-self : goal.invariant_of-self
invariant_of-self g c = at_rest_kept c.self.inside.left c.follow-followed.new.left c.self.inside.writer c.follow-followed.new.writer c.follow-followed.ensures.left c.follow-followed.ensures.writer c.self.invariant

pub returns-clause-steady : goal.returns-clause-steady
returns-clause-steady g c =
    steady_followed c.follow-followed.result g.B.Room.held g.D.OfDb.db c.follow-followed.new.self.seen c.self.inside.left c.self.inside.writer c.follow-followed.ensures.whole c.follow-followed.ensures.fault c.learn-2.ensures.legal c.learn.ensures.told c.self.invariant.2 c.self.invariant.6
