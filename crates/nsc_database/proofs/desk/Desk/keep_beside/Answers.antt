use Rattle.std.proofs.Common.{subst, ◌∙◌, ◌++◌, List, ap}
use Rattle.std.specs.Option.{option_copied}
use Rattle.nsc_model.specs.History.{IsPrefix}
use Rattle.nsc_database.specs.Rests.{Desk, Rests}
use Rattle.nsc_database.proofs.Beside.{rests_beside}
use Rattle.nsc_database.proofs.Standing.{at_rest_on}
use Rattle.nsc_model.specs.declared.record.Record.{Record}
use Rattle.nsc_writer.specs.Writer.{Writer}
use Rattle.nsc_database.specs.Made.{gained}
use Rattle.nsc_database.proofs.Gained.{enters_behind}
use Rattle.nsc_database.proofs.desk.Desk.keep_beside.Goals as goal

pub invariant_of-self : goal.invariant_of-self
invariant_of-self g c = at_rest_on c.self.inside.left c.self.inside.writer c.insert_beside.new.writer (rests_beside c.args.said (option_copied c.args.beside) c.args.self.now.writer.seen c.self.inside.writer c.insert_beside.new.writer c.insert_beside.ensures c.requires) c.self.invariant

pub returns-clause-on : goal.returns-clause-on
returns-clause-on g c =
    let rests : Rests g.D.OfDb.db (g.B.Room.brought g.D.OfDb.db) c.self.inside.writer c.insert_beside.new.writer = rests_beside c.args.said (option_copied c.args.beside) c.args.self.now.writer.seen c.self.inside.writer c.insert_beside.new.writer c.insert_beside.ensures c.requires in
    subst (λ (d : Desk). IsPrefix d.writer.seen c.insert_beside.new.writer.seen) c.self.view_is rests.on

pub returns-clause-made : goal.returns-clause-made
returns-clause-made g c =
    enters_behind c.args.said (option_copied c.args.beside) c.self.inside.writer c.insert_beside.new.writer c.args.self.now.writer.seen c.args.made.now c.add.new.self (ap (λ (d : Desk). d.writer.seen) c.self.view_is) c.insert_beside.ensures
    (c.add.ensures ∙ ap (λ (h : List Record). gained h c.insert_beside.new.writer.seen ++ c.args.made.now) (ap (λ (w : Writer). w.seen) c.of-before.ensures ∙ ap (λ (d : Desk). d.writer.seen) c.self.view_is))
