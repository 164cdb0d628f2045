use Rattle.std.proofs.Common.{◌∙◌, ◌++◌, List, ap, arith, subst, sym}
use Rattle.std.specs.Prelude.{IfOk, OnErr, OnOk}
use Rattle.nsc_model.specs.declared.record.Record.{Record}
use Rattle.nsc_model.specs.History.{invalidations}
use Rattle.nsc_seats.specs.Tables.{IsChain}
use Rattle.nsc_database.specs.Holds.{IsPolled}
use Rattle.nsc_database.specs.Rests.{Desk}
use Rattle.nsc_database.proofs.Shown.{is_polled, is_spent, polls_on}
use Rattle.nsc_database.proofs.Standing.{at_rest_polled}
use Rattle.nsc_model.specs.Made.{IsOneLook}
use Rattle.nsc_writer.specs.Writer.{Writer}
use Rattle.nsc_database.specs.Made.{Enters, IsNone, gained}
use Rattle.nsc_database.proofs.Gained.{enters_no_poll, enters_poll}
use Rattle.nsc_database.proofs.desk.Desk.poll.Goals as goal

pub poll-polled-requires-clause-epoch : goal.poll-polled-requires-clause-epoch
poll-polled-requires-clause-epoch g c =
    let same = ap (λ (d : Desk). invalidations d.writer.seen) c.self.view_is in
    let epochs = c.learn.ensures.told.epochs_are in
    let low = c.requires.epoch in
    omega arith

pub invariant_of-self : goal.invariant_of-self
invariant_of-self g c = at_rest_polled c.self.inside.left c.args.fetched c.args.epoch _ _ c.self.inside.writer c.poll-polled.new.writer c.poll-polled.result c.poll-polled.ensures.polls c.requires.part c.self.invariant

pub invariant_of-self-inside : goal.invariant_of-self-inside
invariant_of-self-inside g c =
    let goes = polls_on c.args.fetched c.args.epoch _ _ c.self.inside.writer c.poll-polled.new.writer c.poll-polled.result c.poll-polled.ensures.polls in
    (subst (IsChain (g.B.Room.table g.D.OfDb.db) c.self.inside.left) (sym goes.table) c.self.inside.own, (c.self.inside.sizes, tt))

pub returns-clause-table : goal.returns-clause-table
returns-clause-table g c =
    (polls_on c.args.fetched c.args.epoch _ _ c.self.inside.writer c.poll-polled.new.writer c.poll-polled.result c.poll-polled.ensures.polls).table ∙ ap (λ (d : Desk). d.writer.table) c.self.view_is

pub returns-clause-polled : goal.returns-clause-polled
returns-clause-polled g c =
    subst (λ (h : List Record). IfOk c.poll-polled.result (λ p. IsPolled h c.poll-polled.new.writer.seen c.args.epoch p)) (ap (λ (d : Desk). d.writer.seen) c.self.view_is)
    (is_polled c.args.fetched c.args.epoch _ _ c.self.inside.writer c.poll-polled.new.writer c.poll-polled.result c.learn-2.ensures.told c.poll-polled.ensures.polls c.poll-polled.ensures.newest c.poll-polled.ensures.polled)

pub returns-clause-spent : goal.returns-clause-spent
returns-clause-spent g c = is_spent c.args.fetched c.args.epoch _ _ c.self.inside.writer c.poll-polled.new.writer c.poll-polled.result c.learn.ensures.told c.poll-polled.ensures.polls

pub returns-clause-made : goal.returns-clause-made
returns-clause-made g c =
    subst (λ (h : List Record). OnOk c.poll-polled.result (Enters IsOneLook h c.poll-polled.new.writer.seen c.args.made.now c.add.new.self)) (ap (λ (d : Desk). d.writer.seen) c.self.view_is)
    (enters_poll c.args.fetched c.args.epoch _ _ c.self.inside.writer c.poll-polled.new.writer c.poll-polled.result c.args.made.now c.add.new.self c.poll-polled.ensures.polls (c.add.ensures ∙ ap (λ (w : Writer). gained w.seen c.poll-polled.new.writer.seen ++ c.args.made.now) c.of-before.ensures))

pub returns-clause-refused : goal.returns-clause-refused
returns-clause-refused g c =
    subst (λ (h : List Record). OnErr c.poll-polled.result (Enters IsNone h c.poll-polled.new.writer.seen c.args.made.now c.add.new.self)) (ap (λ (d : Desk). d.writer.seen) c.self.view_is)
    (enters_no_poll c.args.fetched c.args.epoch _ _ c.self.inside.writer c.poll-polled.new.writer c.poll-polled.result c.args.made.now c.add.new.self c.poll-polled.ensures.polls (c.add.ensures ∙ ap (λ (w : Writer). gained w.seen c.poll-polled.new.writer.seen ++ c.args.made.now) c.of-before.ensures))
