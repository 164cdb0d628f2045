use Rattle.std.proofs.Common.{refl, ◌∙◌, List, ap, arith, subst, sym}
use Rattle.nsc_model.specs.declared.record.Record.{Record}
use Rattle.nsc_model.specs.History.{IsPrefix}
use Rattle.nsc_database.specs.Holds.{IsPolled}
use Rattle.nsc_database.specs.Rests.{Desk}
use Rattle.nsc_database.proofs.Shown.{invalidations_on, polled_since}
use Rattle.nsc_database.proofs.Standing.{held_past}
use Rattle.nsc_database.specs.Frames.{pass_at}
use Rattle.nsc_database.proofs.Added.{adds, adds_none}
use Rattle.nsc_database.proofs.base.Base.enter.Goals as goal

pub poll-polled-requires-clause-epoch : goal.poll-polled-requires-clause-epoch
poll-polled-requires-clause-epoch g c =
    let seen = c.in_ok-follow.ensures.seen ∙ sym (ap (λ (d : Desk). d.writer.seen) (c.in_ok-bring.ensures.same ∙ c.in_ok-follow.ensures.same)) in
    let rise = invalidations_on c.args.pass.now.pass.seen c.bring.new.self.writer.seen (subst (IsPrefix c.args.pass.now.pass.seen) seen c.in_ok-follow.ensures.frame.before) in
    let low = c.requires.epoch in
    omega arith

pub returns-clause-frame : goal.returns-clause-frame
returns-clause-frame g c = held_past _ _ _ _ refl refl refl c.in_ok-follow.ensures.frame c.show.ensures.frame

pub returns-in-Ok-clause-frame : goal.returns-in-Ok-clause-frame
returns-in-Ok-clause-frame g c = held_past _ _ _ _ refl refl refl c.in_ok-follow.ensures.frame c.show.ensures.frame

pub returns-in-Ok-clause-polled : goal.returns-in-Ok-clause-polled
returns-in-Ok-clause-polled g c =
    let seen = c.in_ok-follow.ensures.seen ∙ sym (ap (λ (d : Desk). d.writer.seen) (c.in_ok-bring.ensures.same ∙ c.in_ok-follow.ensures.same)) in
    let before = subst (IsPrefix c.args.pass.now.pass.seen) seen c.in_ok-follow.ensures.frame.before in
    subst (λ (h : List Record). IsPolled c.args.pass.now.pass.seen h c.args.epoch c.in-Ok.polled) (sym c.show.ensures.seen) (polled_since c.args.pass.now.pass.seen c.bring.new.self.writer.seen c.poll-polled.new.self.writer.seen c.args.epoch c.in-Ok.polled before c.in-Ok.ensures.polled)

pub returns-in-Ok-clause-made : goal.returns-in-Ok-clause-made
returns-in-Ok-clause-made g c = adds (pass_at c.args.pass.now) (pass_at c.show.new.pass) c.follow.new.pass.made c.poll-polled.new.made c.in_ok-follow.ensures.made c.in-Ok.ensures.made c.show.ensures.made

pub returns-clause-refused : goal.returns-clause-refused
returns-clause-refused g c = adds_none (pass_at c.args.pass.now) (pass_at c.show.new.pass) c.follow.new.pass.made c.poll-polled.new.made c.in_ok-follow.ensures.made c.in-Err.ensures.refused c.show.ensures.made
