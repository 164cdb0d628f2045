use Rattle.std.proofs.Common.{◌∙◌, All, ap, subst, sym, ◌++◌, List}
use Rattle.nsc_seats.specs.Tables.{IsChain}
use Rattle.nsc_database.specs.Rests.{Desk}
use Rattle.nsc_database.specs.Ticks.{AreAnew, IsDue}
use Rattle.nsc_database.proofs.Renewed.{all_over, answered_anew, as_many, renewal}
use Rattle.nsc_model.specs.declared.record.Record.{Record}
use Rattle.nsc_writer.specs.Writer.{Writer}
use Rattle.nsc_database.specs.Made.{gained}
use Rattle.nsc_database.proofs.Gained.{enters_renewed, enters_unrenewed}
use Rattle.nsc_database.proofs.desk.Desk.renew.Goals as goal

pub renew-renewed-requires-clause-over : goal.renew-renewed-requires-clause-over
renew-renewed-requires-clause-over g c =
    let due = subst (λ (d : Desk). All (IsDue (g.B.Room.brought g.D.OfDb.db) g.B.Room.conf.reloads c.args.now d.writer.seen) c.args.due.now) (sym c.self.view_is) c.requires.due in
    all_over (g.B.Room.brought g.D.OfDb.db) g.B.Room.conf.reloads c.args.now c.self.inside.writer.seen c.args.due.now due

pub renew-renewed-requires-clause-answered : goal.renew-renewed-requires-clause-answered
renew-renewed-requires-clause-answered g c =
    let loads = subst (λ (d : Desk). AreAnew d.writer.seen c.args.epoch c.args.due.now c.args.loads.now) (sym c.self.view_is) c.requires.loads in
    answered_anew c.self.inside.writer.seen c.args.epoch c.args.due.now c.args.loads.now loads

pub renew-renewed-requires-clause-many : goal.renew-renewed-requires-clause-many
renew-renewed-requires-clause-many g c = as_many c.args.self.now.writer.seen c.args.epoch c.args.due.now c.args.loads.now c.requires.loads

pub invariant_of-self-inside : goal.invariant_of-self-inside
invariant_of-self-inside g c =
    let due = subst (λ (d : Desk). All (IsDue (g.B.Room.brought g.D.OfDb.db) g.B.Room.conf.reloads c.args.now d.writer.seen) c.args.due.now) (sym c.self.view_is) c.requires.due in
    let loads = subst (λ (d : Desk). AreAnew d.writer.seen c.args.epoch c.args.due.now c.args.loads.now) (sym c.self.view_is) c.requires.loads in
    let left = renewal c.self.inside.left c.args.now c.args.epoch c.args.due.now c.args.loads.now c.self.inside.writer c.renew-renewed.new.writer c.renew-renewed.result due loads (sym c.epoch.ensures ∙ c.if-epoch.false) c.learn.ensures.told c.renew-renewed.ensures.renews c.renew-renewed.ensures.stops c.self.invariant in
    (subst (IsChain (g.B.Room.table g.D.OfDb.db) c.self.inside.left) (sym left.table) c.self.inside.own, (c.self.inside.sizes, tt))

pub returns-clause-table : goal.returns-clause-table
returns-clause-table g c =
    let due = subst (λ (d : Desk). All (IsDue (g.B.Room.brought g.D.OfDb.db) g.B.Room.conf.reloads c.args.now d.writer.seen) c.args.due.now) (sym c.self.view_is) c.requires.due in
    let loads = subst (λ (d : Desk). AreAnew d.writer.seen c.args.epoch c.args.due.now c.args.loads.now) (sym c.self.view_is) c.requires.loads in
    (renewal c.self.inside.left c.args.now c.args.epoch c.args.due.now c.args.loads.now c.self.inside.writer c.renew-renewed.new.writer c.renew-renewed.result due loads (sym c.epoch.ensures ∙ c.if-epoch.false) c.learn.ensures.told c.renew-renewed.ensures.renews c.renew-renewed.ensures.stops c.self.invariant).table ∙ ap (λ (d : Desk). d.writer.table) c.self.view_is

pub invariant_of-self : goal.invariant_of-self
invariant_of-self g c =
    let due = subst (λ (d : Desk). All (IsDue (g.B.Room.brought g.D.OfDb.db) g.B.Room.conf.reloads c.args.now d.writer.seen) c.args.due.now) (sym c.self.view_is) c.requires.due in
    let loads = subst (λ (d : Desk). AreAnew d.writer.seen c.args.epoch c.args.due.now c.args.loads.now) (sym c.self.view_is) c.requires.loads in
    (renewal c.self.inside.left c.args.now c.args.epoch c.args.due.now c.args.loads.now c.self.inside.writer c.renew-renewed.new.writer c.renew-renewed.result due loads (sym c.epoch.ensures ∙ c.if-epoch.false) c.learn.ensures.told c.renew-renewed.ensures.renews c.renew-renewed.ensures.stops c.self.invariant).rest

pub returns-clause-over : goal.returns-clause-over
returns-clause-over g c =
    let due = subst (λ (d : Desk). All (IsDue (g.B.Room.brought g.D.OfDb.db) g.B.Room.conf.reloads c.args.now d.writer.seen) c.args.due.now) (sym c.self.view_is) c.requires.due in
    let loads = subst (λ (d : Desk). AreAnew d.writer.seen c.args.epoch c.args.due.now c.args.loads.now) (sym c.self.view_is) c.requires.loads in
    (renewal c.self.inside.left c.args.now c.args.epoch c.args.due.now c.args.loads.now c.self.inside.writer c.renew-renewed.new.writer c.renew-renewed.result due loads (sym c.epoch.ensures ∙ c.if-epoch.false) c.learn.ensures.told c.renew-renewed.ensures.renews c.renew-renewed.ensures.stops c.self.invariant).over

pub returns-clause-spent : goal.returns-clause-spent
returns-clause-spent g c =
    let due = subst (λ (d : Desk). All (IsDue (g.B.Room.brought g.D.OfDb.db) g.B.Room.conf.reloads c.args.now d.writer.seen) c.args.due.now) (sym c.self.view_is) c.requires.due in
    let loads = subst (λ (d : Desk). AreAnew d.writer.seen c.args.epoch c.args.due.now c.args.loads.now) (sym c.self.view_is) c.requires.loads in
    (renewal c.self.inside.left c.args.now c.args.epoch c.args.due.now c.args.loads.now c.self.inside.writer c.renew-renewed.new.writer c.renew-renewed.result due loads (sym c.epoch.ensures ∙ c.if-epoch.false) c.learn.ensures.told c.renew-renewed.ensures.renews c.renew-renewed.ensures.stops c.self.invariant).spent

pub returns-clause-made : goal.returns-clause-made
returns-clause-made g c =
    let due = subst (λ (d : Desk). All (IsDue (g.B.Room.brought g.D.OfDb.db) g.B.Room.conf.reloads c.args.now d.writer.seen) c.args.due.now) (sym c.self.view_is) c.requires.due in
    let loads = subst (λ (d : Desk). AreAnew d.writer.seen c.args.epoch c.args.due.now c.args.loads.now) (sym c.self.view_is) c.requires.loads in
    let left = renewal c.self.inside.left c.args.now c.args.epoch c.args.due.now c.args.loads.now c.self.inside.writer c.renew-renewed.new.writer c.renew-renewed.result due loads (sym c.epoch.ensures ∙ c.if-epoch.false) c.learn.ensures.told c.renew-renewed.ensures.renews c.renew-renewed.ensures.stops c.self.invariant in
    enters_renewed c.renew-renewed.result left.added c.args.self.now.writer.seen c.renew-renewed.new.writer.seen c.args.made.now c.add.new.self (left.gains ∙ ap (λ (h : List Record). left.added ++ h) (ap (λ (d : Desk). d.writer.seen) c.self.view_is))
    (c.add.ensures ∙ ap (λ (h : List Record). gained h c.renew-renewed.new.writer.seen ++ c.args.made.now) (ap (λ (w : Writer). w.seen) c.of-before.ensures ∙ ap (λ (d : Desk). d.writer.seen) c.self.view_is))

pub returns-clause-refused : goal.returns-clause-refused
returns-clause-refused g c =
    let due = subst (λ (d : Desk). All (IsDue (g.B.Room.brought g.D.OfDb.db) g.B.Room.conf.reloads c.args.now d.writer.seen) c.args.due.now) (sym c.self.view_is) c.requires.due in
    let loads = subst (λ (d : Desk). AreAnew d.writer.seen c.args.epoch c.args.due.now c.args.loads.now) (sym c.self.view_is) c.requires.loads in
    let left = renewal c.self.inside.left c.args.now c.args.epoch c.args.due.now c.args.loads.now c.self.inside.writer c.renew-renewed.new.writer c.renew-renewed.result due loads (sym c.epoch.ensures ∙ c.if-epoch.false) c.learn.ensures.told c.renew-renewed.ensures.renews c.renew-renewed.ensures.stops c.self.invariant in
    enters_unrenewed c.renew-renewed.result c.renew-renewed.new.writer left.added c.args.self.now.writer.seen c.args.made.now c.add.new.self (left.gains ∙ ap (λ (h : List Record). left.added ++ h) (ap (λ (d : Desk). d.writer.seen) c.self.view_is)) left.alone
    (c.add.ensures ∙ ap (λ (h : List Record). gained h c.renew-renewed.new.writer.seen ++ c.args.made.now) (ap (λ (w : Writer). w.seen) c.of-before.ensures ∙ ap (λ (d : Desk). d.writer.seen) c.self.view_is))
