use Rattle.std.proofs.Common.{ap, subst}
use Rattle.nsc_model.specs.declared.store.Stats.{Stats}
use Rattle.nsc_model.specs.Settings.{settings_of}
use Rattle.nsc_model.specs.Stores.{IsCounted}
use Rattle.nsc_database.specs.Rests.{Desk}
use Rattle.nsc_database.proofs.Shown.{Counted, in_table, is_counted}
use Rattle.nsc_database.proofs.desk.Desk.stats.Goals as goal

pub returns-clause-counted : goal.returns-clause-counted
returns-clause-counted g c =
    let w = c.self.inside.writer in
    let counts : Counted w c.stats.result = record {
      entries = ap (λ (s : Stats). s.entries) c.stats.ensures.value;
      used = ap (λ (s : Stats). s.used) c.stats.ensures.value;
      arena = ap (λ (s : Stats). s.arena) c.stats.ensures.value;
      invalidations_are = ap (λ (s : Stats). s.invalidations) c.stats.ensures.value;
      compactions = ap (λ (s : Stats). s.compactions) c.stats.ensures.value;
      within = c.stats.ensures.within;
    } in
    let settings = settings_of g.B.Room.conf g.D.OfDb.db in
    subst (λ (d : Desk). IsCounted settings d.writer.table.words d.writer.seen c.stats.result) c.self.view_is
    (is_counted settings w c.stats.result c.learn.ensures.told c.self.invariant.1 (in_table settings w c.self.invariant.5 c.learn.ensures.wide) counts)
