use Rattle.std.proofs.Common.{ℕ, ◌∙◌, ◌++◌, ◌≤◌, List, Ok, Option, ap, subst, sym}
use Rattle.nsc_model.specs.declared.conf.DbConf.{DbConf}
use Rattle.nsc_model.specs.declared.record.Record.{Record}
use Rattle.nsc_model.specs.declared.store.LookupFault.{LookupFault}
use Rattle.nsc_model.specs.History.{NoneLive}
use Rattle.nsc_model.specs.Machine.{is_outdated, last_count}
use Rattle.nsc_turns.specs.Ticks.{Checks}
use Rattle.nsc_writer.specs.Writer.{Writer}
use Rattle.nsc_database.specs.Made.{Enters, StopsBy, gained}
use Rattle.nsc_database.specs.Rests.{Desk, Keeps}
use Rattle.nsc_database.specs.Ticks.{IsHoldFault}
use Rattle.nsc_database.proofs.Checked.{at_rest_checked, at_rest_unchecked, fault_unchecked, is_checked, same_unchecked}
use Rattle.nsc_database.proofs.Gained.{enters_checked, enters_unchecked}
use Rattle.nsc_database.proofs.desk.Desk.check.Goals as goal

pub invariant_of-self : goal.invariant_of-self
invariant_of-self g c =
    let w = c.self.inside.writer in
    let w' = c.check-checked.new.writer in
    let checks = subst (λ (s : DbConf). Checks (is_outdated s w.cache.newest_version c.self.inside.ticked) c.args.limit c.args.now w w' (Ok c.in-Ok.checked)) c.requires.settings c.in-Ok.ensures in
    at_rest_checked c.self.inside.left c.in-Ok.checked c.args.limit c.args.now c.version-newest.result w w' checks c.learn.ensures.told c.version-newest.ensures c.self.invariant

pub invariant_of-self-in-Err : goal.invariant_of-self-in-Err
invariant_of-self-in-Err g c = at_rest_unchecked c.self.inside.left c.in-Err.fault _ c.args.limit c.args.now c.self.inside.writer c.check-checked.new.writer c.in-Err.ensures c.learn.ensures.told c.self.invariant

pub returns-in-Ok-clause-checked : goal.returns-in-Ok-clause-checked
returns-in-Ok-clause-checked g c =
    let w = c.self.inside.writer in
    let keeps = subst (λ (x : DbConf × Option ℕ). Keeps x.0 (g.B.Room.brought g.D.OfDb.db) x.1 c.self.inside.ticked w) (λ i. (sym c.requires.settings i, sym c.requires.limit i)) c.self.invariant.0 in
    is_checked c.in-Ok.checked c.args.limit c.args.now w c.check-checked.new.writer c.in-Ok.ensures c.learn.ensures.told keeps

pub returns-in-Err-clause-fault : goal.returns-in-Err-clause-fault
returns-in-Err-clause-fault g c =
    subst (λ (f : LookupFault). IsHoldFault f c.check-checked.new.writer.seen (last_count ≤ c.check-checked.new.writer.cache.cycle) (NoneLive c.check-checked.new.writer.seen)) (sym c.lookup_fault.ensures)
    (fault_unchecked c.in-Err.fault _ c.args.limit c.args.now c.self.inside.writer c.check-checked.new.writer c.in-Err.ensures c.learn.ensures.told)

pub returns-in-Err-clause-memory : goal.returns-in-Err-clause-memory
returns-in-Err-clause-memory g c e = same_unchecked c.in-Err.fault _ c.args.limit c.args.now c.self.inside.writer c.check-checked.new.writer c.in-Err.ensures (sym c.lookup_fault.ensures ∙ e) ∙ ap (λ (d : Desk). d.writer) c.self.view_is

pub returns-in-Ok-clause-made : goal.returns-in-Ok-clause-made
returns-in-Ok-clause-made g c =
    enters_checked c.in-Ok.checked _ c.args.limit c.args.now c.self.inside.writer c.check-checked.new.writer c.args.self.now.writer.seen c.args.made.now c.add.new.self (ap (λ (d : Desk). d.writer.seen) c.self.view_is) c.in-Ok.ensures
    (c.add.ensures ∙ ap (λ (h : List Record). gained h c.check-checked.new.writer.seen ++ c.args.made.now) (ap (λ (w : Writer). w.seen) c.of-before.ensures ∙ ap (λ (d : Desk). d.writer.seen) c.self.view_is))

pub returns-in-Err-clause-refused : goal.returns-in-Err-clause-refused
returns-in-Err-clause-refused g c =
    subst (λ (f : LookupFault). Enters (StopsBy f c.check-checked.new.writer) c.args.self.now.writer.seen c.check-checked.new.writer.seen c.args.made.now c.add.new.self) (sym c.lookup_fault.ensures)
    (enters_unchecked c.in-Err.fault _ c.args.limit c.args.now c.self.inside.writer c.check-checked.new.writer c.args.self.now.writer.seen c.args.made.now c.add.new.self (ap (λ (d : Desk). d.writer.seen) c.self.view_is) c.in-Err.ensures c.learn.ensures.told
    (c.add.ensures ∙ ap (λ (h : List Record). gained h c.check-checked.new.writer.seen ++ c.args.made.now) (ap (λ (w : Writer). w.seen) c.of-before.ensures ∙ ap (λ (d : Desk). d.writer.seen) c.self.view_is)))
