use Rattle.std.proofs.Common.{All, subst, sym}
use Rattle.nsc_model.specs.declared.kind.Db.{Db}
use Rattle.nsc_model.specs.Machine.{Kept}
use Rattle.nsc_image.specs.Saving.{IsEntryOf}
use Rattle.nsc_database.proofs.Opening.{all_own}
use Rattle.nsc_database.proofs.Standing.{at_rest_same}
use Rattle.nsc_database.proofs.desk.Desk.save.Goals as goal

pub save-requires-clause-entries : goal.save-requires-clause-entries
save-requires-clause-entries g c =
    let w = c.self.inside.writer in
    subst (λ (which : Db). All (λ (k : Kept). IsEntryOf which k.entry) w.cache.entries) (sym c.requires) (all_own g.D.OfDb.db w.seen w.cache c.learn.ensures.told c.self.invariant.7)

pub invariant_of-self : goal.invariant_of-self
invariant_of-self g c = at_rest_same c.self.inside.left c.self.inside.writer c.save.new.writer c.save.ensures.same c.self.invariant
