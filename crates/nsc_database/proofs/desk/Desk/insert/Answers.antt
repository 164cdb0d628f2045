use Rattle.std.proofs.Common.{◌∙◌, ◌≤◌, List, ap, arith, refl, subst, sym, ◌++◌}
use Rattle.nsc_words.specs.declared.layout.Layout.{Layout}
use Rattle.nsc_model.specs.declared.record.Record.{Record}
use Rattle.nsc_model.specs.Machine.{last_count}
use Rattle.nsc_shelf.specs.Uses.{counted}
use Rattle.nsc_turns.specs.Turns.{missed}
use Rattle.nsc_turns.proofs.Renewed.{leaves_inserted}
use Rattle.nsc_database.specs.Holds.{IsInserted, LeavesFull}
use Rattle.nsc_database.specs.Rests.{Desk, Rests}
use Rattle.nsc_database.proofs.Rests.{rests_inserted, rests_missed, rests_through}
use Rattle.nsc_database.proofs.Shown.{is_inserted, leaves_full}
use Rattle.nsc_database.proofs.Standing.{at_rest_on}
use Rattle.nsc_writer.specs.Writer.{Writer}
use Rattle.nsc_database.specs.Made.{gained}
use Rattle.nsc_database.proofs.Gained.{enters_one}
use Rattle.nsc_database.proofs.desk.Desk.insert.Goals as goal

pub invariant_of-self : goal.invariant_of-self
invariant_of-self g c =
    let w = c.self.inside.writer in
    let w1 = missed c.args.loaded w in
    let none = c.requires.new in
    let counts : Rests g.D.OfDb.db (g.B.Room.brought g.D.OfDb.db) w w1 = rests_missed (counted c.args.loaded.answer.not_found w.misses) w w1 refl in
    at_rest_on c.self.inside.left w c.insert-inserted.new.writer (rests_through w w1 c.insert-inserted.new.writer counts (rests_inserted c.insert-inserted.result.0 c.args.loaded w1 c.insert-inserted.new.writer c.insert-inserted.ensures.inserted (omega arith) c.requires.own)) c.self.invariant

pub returns-clause-inserted : goal.returns-clause-inserted
returns-clause-inserted g c =
    let w = c.self.inside.writer in
    let w1 = missed c.args.loaded w in
    let counts : Rests g.D.OfDb.db (g.B.Room.brought g.D.OfDb.db) w w1 = rests_missed (counted c.args.loaded.answer.not_found w.misses) w w1 refl in
    let layout = (leaves_inserted c.insert-inserted.result.0 c.args.loaded w1 c.insert-inserted.new.writer c.insert-inserted.ensures.inserted).layout in
    subst (λ (x : Layout × List Record). IsInserted x.0.arena (last_count ≤ c.insert-inserted.new.writer.cache.cycle) c.insert-inserted.result.0 c.args.loaded x.1 c.insert-inserted.new.writer.seen) (λ i. (sym layout i, ap (λ (d : Desk). d.writer.seen) c.self.view_is i))
    (is_inserted c.insert-inserted.result.0 c.args.loaded w1 c.insert-inserted.new.writer c.learn.ensures.told (counts.packed c.self.invariant.1) c.insert-inserted.ensures.inserted c.insert-inserted.ensures.why)

pub returns-clause-full : goal.returns-clause-full
returns-clause-full g c =
    subst (λ (d : Desk). LeavesFull c.insert-inserted.result.0 d.writer c.insert-inserted.new.writer) c.self.view_is
    (leaves_full c.insert-inserted.result.0 c.args.loaded c.self.inside.writer (missed c.args.loaded c.self.inside.writer) c.insert-inserted.new.writer refl refl c.insert-inserted.ensures.inserted c.insert-inserted.ensures.why)

pub returns-clause-table : goal.returns-clause-table
returns-clause-table g c = (leaves_inserted c.insert-inserted.result.0 c.args.loaded (missed c.args.loaded c.self.inside.writer) c.insert-inserted.new.writer c.insert-inserted.ensures.inserted).table ∙ ap (λ (d : Desk). d.writer.table) c.self.view_is

pub returns-clause-made : goal.returns-clause-made
returns-clause-made g c =
    enters_one c.insert-inserted.result.0 c.args.loaded (missed c.args.loaded c.self.inside.writer) c.insert-inserted.new.writer c.args.self.now.writer.seen c.args.made.now c.add.new.self (ap (λ (d : Desk). d.writer.seen) c.self.view_is) c.insert-inserted.ensures.inserted
    (c.add.ensures ∙ ap (λ (h : List Record). gained h c.insert-inserted.new.writer.seen ++ c.args.made.now) (ap (λ (w : Writer). w.seen) c.of-before.ensures ∙ ap (λ (d : Desk). d.writer.seen) c.self.view_is))
