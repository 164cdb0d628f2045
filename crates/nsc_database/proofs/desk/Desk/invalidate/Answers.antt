use Rattle.std.proofs.Common.{◌<◌, List, ap, subst, ◌∙◌, ◌++◌}
use Rattle.std.specs.Prelude.{IfOk}
use Rattle.nsc_model.specs.declared.record.Record.{Record}
use Rattle.nsc_model.specs.History.{invalidations}
use Rattle.nsc_model.specs.Machine.{last_count}
use Rattle.nsc_model.specs.Stores.{IsEmptied}
use Rattle.nsc_database.specs.Rests.{Desk}
use Rattle.nsc_database.proofs.Invalidations.{all_below, all_emptied, none_emptied, rests_invalidated}
use Rattle.nsc_database.proofs.Standing.{at_rest_on}
use Rattle.nsc_writer.specs.Writer.{Writer}
use Rattle.nsc_database.specs.Made.{gained}
use Rattle.nsc_database.proofs.Gained.{enters_emptied, enters_unemptied}
use Rattle.nsc_database.proofs.desk.Desk.invalidate.Goals as goal

pub invariant_of-self : goal.invariant_of-self
invariant_of-self g c = at_rest_on c.self.inside.left c.self.inside.writer c.invalidate-emptied.new.writer (rests_invalidated c.invalidate-emptied.result c.self.inside.writer c.invalidate-emptied.new.writer c.invalidate-emptied.ensures.completes c.invalidate-emptied.ensures.stops c.learn.ensures.told) c.self.invariant

pub returns-clause-done : goal.returns-clause-done
returns-clause-done g c =
    subst (λ (h : List Record). IfOk c.invalidate-emptied.result (λ epoch. IsEmptied h c.invalidate-emptied.new.writer.seen epoch)) (ap (λ (d : Desk). d.writer.seen) c.self.view_is)
    (all_emptied c.invalidate-emptied.result c.self.inside.writer c.invalidate-emptied.new.writer c.invalidate-emptied.ensures.completes c.invalidate-emptied.ensures.epoch c.invalidate-emptied.ensures.below c.learn.ensures.told)

pub returns-clause-below : goal.returns-clause-below
returns-clause-below g c =
    subst (λ (h : List Record). IfOk c.invalidate-emptied.result (λ _. invalidations h < last_count)) (ap (λ (d : Desk). d.writer.seen) c.self.view_is)
    (all_below c.invalidate-emptied.result c.self.inside.writer c.invalidate-emptied.ensures.below c.learn.ensures.told)

pub returns-clause-spent : goal.returns-clause-spent
returns-clause-spent g c = none_emptied c.invalidate-emptied.result c.self.inside.writer c.invalidate-emptied.new.writer c.invalidate-emptied.ensures.stops c.learn.ensures.told

pub returns-clause-made : goal.returns-clause-made
returns-clause-made g c =
    enters_emptied c.invalidate-emptied.result c.self.inside.writer c.invalidate-emptied.new.writer c.args.self.now.writer.seen c.args.made.now c.add.new.self (ap (λ (d : Desk). d.writer.seen) c.self.view_is) c.invalidate-emptied.ensures.completes c.invalidate-emptied.ensures.epoch
    (c.add.ensures ∙ ap (λ (h : List Record). gained h c.invalidate-emptied.new.writer.seen ++ c.args.made.now) (ap (λ (w : Writer). w.seen) c.of-before.ensures ∙ ap (λ (d : Desk). d.writer.seen) c.self.view_is))

pub returns-clause-refused : goal.returns-clause-refused
returns-clause-refused g c =
    enters_unemptied c.invalidate-emptied.result c.self.inside.writer c.invalidate-emptied.new.writer c.args.self.now.writer.seen c.args.made.now c.add.new.self (ap (λ (d : Desk). d.writer.seen) c.self.view_is) c.invalidate-emptied.ensures.stops c.learn.ensures.told
    (c.add.ensures ∙ ap (λ (h : List Record). gained h c.invalidate-emptied.new.writer.seen ++ c.args.made.now) (ap (λ (w : Writer). w.seen) c.of-before.ensures ∙ ap (λ (d : Desk). d.writer.seen) c.self.view_is))
