use Rattle.std.proofs.Common.{ℕ, List, ap, subst, sym}
use Rattle.nsc_model.specs.declared.record.Record.{Record}
use Rattle.nsc_model.specs.Machine.{room_of}
use Rattle.nsc_model.specs.Settings.{settings_of}
use Rattle.nsc_seats.specs.Seats.{Seats}
use Rattle.nsc_database.specs.Rests.{Desk, LoadsAgain}
use Rattle.nsc_model.specs.Steady.{HasOne}
use Rattle.nsc_database.proofs.Standing.{at_rest_same}
use Rattle.nsc_database.proofs.Steady.{one_of_still}
use Rattle.nsc_database.proofs.desk.Desk.show.Goals as goal

pub invariant_of-self : goal.invariant_of-self
invariant_of-self g c = at_rest_same c.self.inside.left c.self.inside.writer c.show.new.writer c.show.ensures.writer c.self.invariant

pub returns-clause-steady : goal.returns-clause-steady
returns-clause-steady g c files e =
    let w = c.self.inside.writer in
    subst (HasOne files g.D.OfDb.db) (sym (ap (λ (s : Seats). s.seen) c.show.ensures.seats)) (one_of_still files g.D.OfDb.db w.seen w.cache c.learn.ensures.told (c.self.invariant.2 files e))

pub returns-clause-again : goal.returns-clause-again
returns-clause-again g c =
    subst (λ (x : ℕ × List Record). LoadsAgain (room_of (settings_of g.B.Room.conf g.D.OfDb.db)) x.0 x.1) (λ i. (ap (λ (d : Desk). d.writer.cache.cycle) c.self.view_is i, sym (ap (λ (s : Seats). s.seen) c.show.ensures.seats) i)) c.self.invariant.3
