use Rattle.std.proofs.Common.{refl, ℕ, ◌≤◌, ◌⊎◌, List, Option, inl, inr, subst, sym}
use Rattle.std.proofs.lemmas.Result.{IfErr-weaker, IfOk-weaker}
use Rattle.nsc_model.specs.declared.conf.DbConf.{DbConf}
use Rattle.nsc_model.specs.declared.record.Record.{Record}
use Rattle.nsc_model.specs.History.{NoneLive}
use Rattle.nsc_model.specs.Machine.{last_count, room_of}
use Rattle.nsc_model.specs.Reloads.{Reloaded}
use Rattle.nsc_model.specs.Settings.{settings_of}
use Rattle.nsc_model.specs.Stores.{AreLoadedAgain}
use Rattle.nsc_database.specs.Frames.{LoadedLastCycle, pass_at}
use Rattle.nsc_database.specs.Ticks.{IsHoldFault}
use Rattle.nsc_database.proofs.Standing.{held_past, in_any_case, loaded_before}
use Rattle.nsc_database.proofs.Ticked.{held_to}
use Rattle.nsc_database.proofs.Added.{adds, refused_check}
use Rattle.nsc_database.proofs.base.Base.check.Goals as goal

pub returns-clause-frame : goal.returns-clause-frame
returns-clause-frame g c = held_past _ _ _ _ refl refl refl c.in_ok-follow.ensures.frame c.show_cycle.ensures.frame

pub returns-clause-reloaded : goal.returns-clause-reloaded
returns-clause-reloaded g c = in_any_case c.check-checked.result (subst (λ (limit : Option ℕ). Reloaded (g.B.Room.brought g.D.OfDb.db) limit c.show_cycle.new.pass.pass.seen) (sym c.args.self.now.conf.1) c.show_cycle.ensures.reloaded)

pub returns-clause-again : goal.returns-clause-again
returns-clause-again g c =
    let last_cycle : Type 0 = LoadedLastCycle c.args.pass.now c.show_cycle.new.pass in
    let again : AreLoadedAgain (room_of (settings_of g.B.Room.conf g.D.OfDb.db)) c.show_cycle.new.pass.pass.seen ⊎ last_cycle =
    elim c.show_cycle.ensures.again [ inl all ↦ inl all | inr found ↦ inr (loaded_before c.args.pass.now c.follow.new.pass c.show_cycle.new.pass c.in_ok-follow.ensures.frame.searches found) ] in
    in_any_case c.check-checked.result (subst (λ (s : DbConf). AreLoadedAgain (room_of s) c.show_cycle.new.pass.pass.seen ⊎ last_cycle) (sym c.args.self.now.conf.0) again)

pub returns-clause-fault : goal.returns-clause-fault
returns-clause-fault g c = IfErr-weaker c.check-checked.result _ _ (λ fault f.
    let last_cycle : Type 0 = LoadedLastCycle c.args.pass.now c.show_cycle.new.pass in
    let found : last_count ≤ c.check-checked.new.self.writer.cache.cycle → last_cycle = λ high. loaded_before c.args.pass.now c.follow.new.pass c.show_cycle.new.pass c.in_ok-follow.ensures.frame.searches (c.show_cycle.ensures.cycle high) in
    subst (λ (h : List Record). IsHoldFault fault h last_cycle (NoneLive h)) (sym c.show_cycle.ensures.seen) (held_to fault _ _ last_cycle _ found f)) c.check-checked.ensures.fault

pub returns-clause-made : goal.returns-clause-made
returns-clause-made g c = IfOk-weaker c.check-checked.result _ _ (λ checked e. adds (pass_at c.args.pass.now) (pass_at c.show_cycle.new.pass) c.follow.new.pass.made c.check-checked.new.made c.in_ok-follow.ensures.made e c.show_cycle.ensures.made) c.check-checked.ensures.made

pub returns-clause-refused : goal.returns-clause-refused
returns-clause-refused g c = IfErr-weaker c.check-checked.result _ _ (λ fault e.
    refused_check fault c.check-checked.new.self.writer (pass_at c.args.pass.now) (pass_at c.show_cycle.new.pass) c.follow.new.pass.made c.check-checked.new.made c.in_ok-follow.ensures.made e c.show_cycle.ensures.made c.show_cycle.ensures.seen
    (λ high. loaded_before c.args.pass.now c.follow.new.pass c.show_cycle.new.pass c.in_ok-follow.ensures.frame.searches (c.show_cycle.ensures.cycle high))) c.check-checked.ensures.refused
