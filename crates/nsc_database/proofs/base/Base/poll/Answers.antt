use Rattle.std.proofs.Common.{◌≤◌, All, [], ap, arith, refl, subst, sym}
use Rattle.nsc_model.specs.History.{IsFit, IsPrefix, Legal}
use Rattle.nsc_seats.specs.Seats.{Seats}
use Rattle.nsc_model.specs.Steady.{IsSteady}
use Rattle.nsc_database.proofs.base.Base.poll.Goals as goal

pub returns-clause-steady : goal.returns-clause-steady
returns-clause-steady g c steady = subst (IsSteady g.B.Room.held g.D.OfDb.db) (sym (ap (λ (s : Seats). s.seen) c.fetch.ensures.pass.1)) steady

pub returns-clause-frame : goal.returns-clause-frame
returns-clause-frame g c =
    let same = sym c.fetch.ensures.pass.1 in
    let now = c.args.pass.now.pass in
    record {
      db = c.fetch.ensures.pass.0;
      before = subst (λ (s : Seats). IsPrefix now.seen s.seen) same ([], refl);
      legal = subst (λ (s : Seats). Legal s.seen) same c.learn.ensures.legal;
      fit = subst (λ (s : Seats). All IsFit s.seen) same c.learn.ensures.fit;
      searches = subst (λ (s : Seats). now.searching.searches ≤ s.searching.searches) same (omega arith);
    }
