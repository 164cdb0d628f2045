use Rattle.std.proofs.Common.{◌∙◌, ◌+◌, ◌≤◌, List, length, ap, arith, subst, sym, ◌++◌}
use Rattle.nsc_base.specs.Nodes.{node_words}
use Rattle.nsc_model.specs.declared.record.Record.{Record}
use Rattle.nsc_database.specs.Holds.{IsInsertedOr}
use Rattle.nsc_database.specs.Rests.{Desk}
use Rattle.nsc_turns.proofs.Renewed.{leaves_inserted}
use Rattle.nsc_database.proofs.Rests.{rests_inserted}
use Rattle.nsc_database.proofs.Shown.{inserted_with_room, not_failed}
use Rattle.nsc_database.proofs.Standing.{at_rest_on}
use Rattle.nsc_writer.specs.Writer.{Writer}
use Rattle.nsc_database.specs.Made.{gained}
use Rattle.nsc_database.proofs.Gained.{enters_one}
use Rattle.nsc_database.proofs.desk.Desk.insert_again.Goals as goal

pub invariant_of-self : goal.invariant_of-self
invariant_of-self g c =
    let none = c.requires.new in
    at_rest_on c.self.inside.left c.self.inside.writer c.insert-inserted.new.self (rests_inserted c.insert-inserted.result.0 c.args.loaded c.self.inside.writer c.insert-inserted.new.self c.insert-inserted.ensures.inserted (omega arith) c.requires.own) c.self.invariant

pub returns-clause-inserted : goal.returns-clause-inserted
returns-clause-inserted g c =
    subst (λ (h : List Record). IsInsertedOr (λ need free. ⊥) c.insert-inserted.result.0 c.args.loaded h c.insert-inserted.new.self.seen) (ap (λ (d : Desk). d.writer.seen) c.self.view_is)
    (inserted_with_room c.insert-inserted.result.0 c.args.loaded c.self.inside.writer c.insert-inserted.new.self c.learn.ensures.told c.self.invariant.1 c.insert-inserted.ensures.inserted c.insert-inserted.ensures.why (subst (λ (d : Desk). d.writer.cache.used + node_words (length c.args.loaded.request.key) (length c.args.loaded.answer.bytes) ≤ d.writer.layout.arena) (sym c.self.view_is) c.requires.room))

pub returns-clause-table : goal.returns-clause-table
returns-clause-table g c = (leaves_inserted c.insert-inserted.result.0 c.args.loaded c.self.inside.writer c.insert-inserted.new.self c.insert-inserted.ensures.inserted).table ∙ ap (λ (d : Desk). d.writer.table) c.self.view_is

pub returns-clause-counted : goal.returns-clause-counted
returns-clause-counted g c =
    let room = subst (λ (d : Desk). d.writer.cache.used + node_words (length c.args.loaded.request.key) (length c.args.loaded.answer.bytes) ≤ d.writer.layout.arena) (sym c.self.view_is) c.requires.room in
    not_failed c.insert-inserted.result.0 c.args.loaded c.self.inside.writer c.insert-inserted.new.self c.insert-inserted.ensures.inserted c.insert-inserted.ensures.why room ∙ ap (λ (d : Desk). d.writer.cache.add_failed) c.self.view_is

pub returns-clause-made : goal.returns-clause-made
returns-clause-made g c =
    enters_one c.insert-inserted.result.0 c.args.loaded c.self.inside.writer c.insert-inserted.new.self c.args.self.now.writer.seen c.args.made.now c.add.new.self (ap (λ (d : Desk). d.writer.seen) c.self.view_is) c.insert-inserted.ensures.inserted
    (c.add.ensures ∙ ap (λ (h : List Record). gained h c.insert-inserted.new.self.seen ++ c.args.made.now) (ap (λ (w : Writer). w.seen) c.of-before.ensures ∙ ap (λ (d : Desk). d.writer.seen) c.self.view_is))
