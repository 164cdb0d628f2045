use Rattle.std.proofs.Common.{refl, ◌∙◌, ℕ, ◌⊎◌, All, List, Option, ap, arith, inl, inr, subst, sym}
use Rattle.nsc_model.specs.declared.conf.DbConf.{DbConf}
use Rattle.nsc_model.specs.declared.record.Record.{Record}
use Rattle.nsc_model.specs.History.{IsPrefix}
use Rattle.nsc_model.specs.Machine.{room_of}
use Rattle.nsc_model.specs.Settings.{settings_of}
use Rattle.nsc_model.specs.Stores.{AreLoadedAgain, IsUnmoved}
use Rattle.nsc_pruner.specs.Due.{Due}
use Rattle.nsc_database.specs.Rests.{Desk}
use Rattle.nsc_turns.specs.declared.answering.Answering.{Answering}
use Rattle.nsc_database.specs.Frames.{LoadedLastCycle, pass_at}
use Rattle.nsc_database.specs.Ticks.{AreAnew, AreOver, IsDue}
use Rattle.nsc_database.proofs.Pruning.{all_due_on}
use Rattle.nsc_database.proofs.Renewed.{anew_on}
use Rattle.nsc_database.proofs.Shown.{invalidations_on, unmoved_to}
use Rattle.nsc_database.proofs.Standing.{held_past, loaded_before}
use Rattle.nsc_database.proofs.Added.{refused_renewal}
use Rattle.nsc_database.proofs.base.Base.renew.Goals as goal

pub renew-renewed-requires-clause-noted : goal.renew-renewed-requires-clause-noted
renew-renewed-requires-clause-noted g c =
    let seen = c.in_ok-follow.ensures.seen ∙ sym (ap (λ (d : Desk). d.writer.seen) c.in_ok-follow.ensures.same) in
    let rise = invalidations_on c.args.pass.now.pass.seen c.follow.new.self.writer.seen (subst (IsPrefix c.args.pass.now.pass.seen) seen c.in_ok-follow.ensures.frame.before) in
    let low = c.requires.noted in
    omega arith

pub renew-renewed-requires-clause-due : goal.renew-renewed-requires-clause-due
renew-renewed-requires-clause-due g c =
    let seen = c.in_ok-follow.ensures.seen ∙ sym (ap (λ (d : Desk). d.writer.seen) c.in_ok-follow.ensures.same) in
    let due = all_due_on (g.B.Room.brought g.D.OfDb.db) c.args.self.now.reloads c.args.now c.args.pass.now.pass.seen c.follow.new.pass.pass.seen c.args.due.items c.in_ok-follow.ensures.frame.before c.requires.due in
    subst (λ (x : Option ℕ × List Record × List Due). All (IsDue (g.B.Room.brought g.D.OfDb.db) x.0 c.args.now x.1) x.2) (λ i. (c.args.self.now.conf.1 i, seen i, sym c.deref_mut.ensures.value i)) due

pub renew-renewed-requires-clause-loads : goal.renew-renewed-requires-clause-loads
renew-renewed-requires-clause-loads g c =
    let seen = c.in_ok-follow.ensures.seen ∙ sym (ap (λ (d : Desk). d.writer.seen) c.in_ok-follow.ensures.same) in
    let a : Answering = record { settings = c.args.self.now.settings; stamp = c.args.polled.now.stamp; moment = c.args.now } in
    let anew : AreAnew c.args.pass.now.pass.seen c.args.epoch c.deref.result.now c.deref-2.result.now = record { answering = a; files = c.args.polled.now.content; version = c.requires.polled.version; since = c.requires.polled.since; stamped = c.requires.polled.epoch_is; soon = c.loads.ensures.soon; made = c.deref-2.ensures.value ∙ c.in-Ok.ensures.made } in
    subst (λ (x : List Record × List Due). AreAnew x.0 c.args.epoch x.1 c.deref-2.result.now) (λ i. (seen i, (c.deref.ensures.value ∙ sym c.deref_mut.ensures.value) i))
    (anew_on c.args.pass.now.pass.seen c.follow.new.pass.pass.seen c.args.epoch c.deref.result.now c.deref-2.result.now c.learn.ensures.legal c.in_ok-follow.ensures.frame.legal c.in_ok-follow.ensures.frame.before anew)

pub returns-in-Ok-renewed-clause-frame : goal.returns-in-Ok-renewed-clause-frame
returns-in-Ok-renewed-clause-frame g c = held_past _ _ _ _ refl refl refl c.in_ok-follow.ensures.frame c.show_cycle.ensures.frame

pub returns-clause-frame : goal.returns-clause-frame
returns-clause-frame g c = held_past _ _ _ _ refl refl refl c.in_ok-follow.ensures.frame c.show_cycle.ensures.frame

pub returns-in-Ok-renewed-clause-again : goal.returns-in-Ok-renewed-clause-again
returns-in-Ok-renewed-clause-again g c =
    let last_cycle : Type 0 = LoadedLastCycle c.args.pass.now c.show_cycle.new.pass in
    let again : AreLoadedAgain (room_of (settings_of g.B.Room.conf g.D.OfDb.db)) c.show_cycle.new.pass.pass.seen ⊎ last_cycle =
    elim c.show_cycle.ensures.again [ inl all ↦ inl all | inr found ↦ inr (loaded_before c.args.pass.now c.follow.new.pass c.show_cycle.new.pass c.in_ok-follow.ensures.frame.searches found) ] in
    subst (λ (s : DbConf). AreLoadedAgain (room_of s) c.show_cycle.new.pass.pass.seen ⊎ last_cycle) (sym c.args.self.now.conf.0) again

pub returns-clause-fault : goal.returns-clause-fault
returns-clause-fault g c =
    let last_cycle : Type 0 = LoadedLastCycle c.args.pass.now c.show_cycle.new.pass in
    subst (λ (x : List Record × List Due). IsUnmoved x.0 last_cycle c.in-Err-renewed.spent.count (AreOver c.args.epoch x.0 x.1)) (λ i. (sym c.show_cycle.ensures.seen i, c.deref_mut.ensures.value i))
    (unmoved_to _ _ last_cycle _ _ (λ high. loaded_before c.args.pass.now c.follow.new.pass c.show_cycle.new.pass c.in_ok-follow.ensures.frame.searches (c.show_cycle.ensures.cycle high)) c.in-Err-renewed.ensures.spent)

pub returns-clause-refused : goal.returns-clause-refused
returns-clause-refused g c =
    refused_renewal c.in-Err-renewed.spent.count c.renew-renewed.new.self.writer (pass_at c.args.pass.now) (pass_at c.show_cycle.new.pass) c.follow.new.pass.made c.renew-renewed.new.made c.in_ok-follow.ensures.made c.in-Err-renewed.ensures.refused c.show_cycle.ensures.made
    (λ high. loaded_before c.args.pass.now c.follow.new.pass c.show_cycle.new.pass c.in_ok-follow.ensures.frame.searches (c.show_cycle.ensures.cycle high))
