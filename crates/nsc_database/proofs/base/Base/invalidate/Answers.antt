use Rattle.std.proofs.Common.{refl, ◌∙◌, List, ap, subst, sym}
use Rattle.nsc_model.specs.declared.record.Record.{Record}
use Rattle.nsc_model.specs.History.{IsPrefix, NoneLive}
use Rattle.nsc_model.specs.Stores.{IsEmptied, IsUnmoved}
use Rattle.nsc_database.specs.Frames.{LoadedLastCycle, pass_at}
use Rattle.nsc_database.specs.Rests.{Desk}
use Rattle.nsc_database.proofs.Invalidations.{emptied_since}
use Rattle.nsc_database.proofs.Shown.{unmoved_to}
use Rattle.nsc_database.proofs.Standing.{held_past, loaded_before}
use Rattle.nsc_database.proofs.Added.{adds, refused_invalidation}
use Rattle.nsc_database.proofs.base.Base.invalidate.Goals as goal

pub returns-in-Ok-clause-frame : goal.returns-in-Ok-clause-frame
returns-in-Ok-clause-frame g c = held_past _ _ _ _ refl refl refl c.in_ok-follow.ensures.frame c.show_cycle.ensures.frame

pub returns-clause-frame : goal.returns-clause-frame
returns-clause-frame g c = held_past _ _ _ _ refl refl refl c.in_ok-follow.ensures.frame c.show_cycle.ensures.frame

pub returns-in-Ok-clause-done : goal.returns-in-Ok-clause-done
returns-in-Ok-clause-done g c =
    let seen = c.in_ok-follow.ensures.seen ∙ sym (ap (λ (d : Desk). d.writer.seen) c.in_ok-follow.ensures.same) in
    let before = subst (IsPrefix c.args.pass.now.pass.seen) seen c.in_ok-follow.ensures.frame.before in
    subst (λ (h : List Record). IsEmptied c.args.pass.now.pass.seen h c.in-Ok.epoch) (sym c.show_cycle.ensures.seen) (emptied_since c.args.pass.now.pass.seen c.follow.new.self.writer.seen c.invalidate-ended.new.self.writer.seen c.in-Ok.epoch before c.in-Ok.ensures.below c.in-Ok.ensures.done)

pub returns-clause-fault : goal.returns-clause-fault
returns-clause-fault g c =
    let last_cycle : Type 0 = LoadedLastCycle c.args.pass.now c.show_cycle.new.pass in
    subst (λ (h : List Record). IsUnmoved h last_cycle c.in-Err.spent.count (NoneLive h)) (sym c.show_cycle.ensures.seen)
    (unmoved_to _ _ last_cycle _ _ (λ high. loaded_before c.args.pass.now c.follow.new.pass c.show_cycle.new.pass c.in_ok-follow.ensures.frame.searches (c.show_cycle.ensures.cycle high)) c.in-Err.ensures.spent)

pub returns-in-Ok-clause-made : goal.returns-in-Ok-clause-made
returns-in-Ok-clause-made g c = adds (pass_at c.args.pass.now) (pass_at c.show_cycle.new.pass) c.follow.new.pass.made c.invalidate-ended.new.made c.in_ok-follow.ensures.made c.in-Ok.ensures.made c.show_cycle.ensures.made

pub returns-clause-refused : goal.returns-clause-refused
returns-clause-refused g c =
    refused_invalidation c.in-Err.spent.count c.invalidate-ended.new.self.writer (pass_at c.args.pass.now) (pass_at c.show_cycle.new.pass) c.follow.new.pass.made c.invalidate-ended.new.made c.in_ok-follow.ensures.made c.in-Err.ensures.refused c.show_cycle.ensures.made c.show_cycle.ensures.seen
    (λ high. loaded_before c.args.pass.now c.follow.new.pass c.show_cycle.new.pass c.in_ok-follow.ensures.frame.searches (c.show_cycle.ensures.cycle high))
