use Rattle.std.proofs.Common.{ap, subst, sym, ◌∙◌}
use Rattle.nsc_model.specs.declared.kind.Db.{Db}
use Rattle.nsc_model.specs.Files.{part_of}
use Rattle.nsc_model.specs.Steady.{HasOne}
use Rattle.nsc_writer.specs.Writer.{IsNewest}
use Rattle.nsc_database.specs.Openings.{Begun}
use Rattle.nsc_database.proofs.Steady.{one_of_still}
use Rattle.nsc_database.proofs.opened.Opened.enter.Goals as goal

pub base-requires-clause-part : goal.base-requires-clause-part
base-requires-clause-part g c files e = c.args.self.part files (c.requires.held ∙ e) ∙ ap (λ (d : Db). part_of d files) c.in-Passwd.is

pub base-requires-in-Group-clause-part : goal.base-requires-in-Group-clause-part
base-requires-in-Group-clause-part g c files e = c.args.self.part files (c.requires.held ∙ e) ∙ ap (λ (d : Db). part_of d files) c.in-Group.is

pub base-requires-in-Hosts-clause-part : goal.base-requires-in-Hosts-clause-part
base-requires-in-Hosts-clause-part g c files e = c.args.self.part files (c.requires.held ∙ e) ∙ ap (λ (d : Db). part_of d files) c.in-Hosts.is

pub base-requires-in-Services-clause-part : goal.base-requires-in-Services-clause-part
base-requires-in-Services-clause-part g c files e = c.args.self.part files (c.requires.held ∙ e) ∙ ap (λ (d : Db). part_of d files) c.in-Services.is

pub returns-clause-steady : goal.returns-clause-steady
returns-clause-steady g c files e =
    let w = c.begun.inside.writer in
    let newest = subst (λ (b : Begun). IsNewest c.args.self.book.newest 0 b.writer.cache) (sym c.begun.view_is) c.args.self.newest in
    let one = one_of_still files c.args.self.db w.seen w.cache c.learn.ensures.told (record { first = newest.number; part = newest.sources ∙ c.args.self.part files (c.requires.held ∙ e) }) in
    subst (HasOne files c.args.self.db) (ap (λ (b : Begun). b.writer.seen) c.begun.view_is ∙ sym c.args.self.seen) one
