use Rattle.std.proofs.Common.{◌≡◌, true, false, sym, ◌∙◌, subst}
use Rattle.std.proofs.lemmas.Result.{err_from_is_err_and}
use Rattle.nsc_model.specs.declared.fault.CacheFault.TheVariants.{Spent}
use Rattle.nsc_model.specs.Machine.{polled, tick}
use Rattle.nsc_model.specs.Events.{ComesTo, StopsAt}
use Rattle.nsc_plain.specs.PlainCache.{PlainCache}
use Rattle.nsc_plain.proofs.Events.{kept_after, tick_rests, tick_passes, tick_unpolled, tick_faults}
use Rattle.nsc_plain.proofs.cache.PlainCache.tick_prepared.Goals as goal

pub returns-then-not-self-clause-turn : goal.returns-then-not-self-clause-turn
returns-then-not-self-clause-turn g c =
    let off = subst (λ (s : PlainCache). s.settings.enabled ≡ false) c.self.view_is c.if-not-self.true in
    tick_rests c.args.self.now.settings c.args.self.now.reloads c.args.now c.args.files.now.files c.args.self.now.ticked c.args.self.now.cache off

pub returns-in_err-poll-clause-fault : goal.returns-in_err-poll-clause-fault
returns-in_err-poll-clause-fault g c =
    let on = subst (λ (s : PlainCache). s.settings.enabled ≡ true) c.self.view_is c.if-not-self.false in
    let p = err_from_is_err_and c.from_residual.result c.from_residual.ensures.1 in
    rw (p.1, p.2)
    (tick_unpolled c.args.self.now.settings c.args.self.now.reloads c.args.now c.args.files.now.files c.args.self.now.ticked c.args.self.now.cache c.poll.new.self.cache c.in_err-poll.field-0.0 on c.in_err-poll.ensures.fault)

pub returns-in-Ok-clause-turn : goal.returns-in-Ok-clause-turn
returns-in-Ok-clause-turn g c =
    let on = subst (λ (s : PlainCache). s.settings.enabled ≡ true) c.self.view_is c.if-not-self.false in
    let turn = rw (c.in_ok-poll.ensures.settings, c.in_ok-poll.ensures.limit, c.in_ok-poll.ensures.ticked) at c.in-Ok.ensures.turn in
    subst (λ (s : PlainCache). ComesTo (tick c.args.self.now.settings c.args.self.now.reloads c.args.now c.args.files.now.files c.args.self.now.ticked c.args.self.now.cache) s.cache) (sym c.self-2.view_is)
    (tick_passes c.args.self.now.settings c.args.self.now.reloads c.args.now c.args.files.now.files c.args.self.now.ticked c.args.self.now.cache c.poll.new.self.cache c.check.new.self.cache on c.in_ok-poll.ensures.turn turn)

pub returns-in-Err-Spent-clause-kept : goal.returns-in-Err-Spent-clause-kept
returns-in-Err-Spent-clause-kept g c =
    let kept = rw (c.in_ok-poll.ensures.settings, c.in_ok-poll.ensures.ticked) at c.ticked_after-kept.ensures in
    kept ∙ kept_after c.args.self.now.settings c.args.self.now.ticked (polled c.args.files.now.files c.args.self.now.cache) c.poll.new.self.cache c.in_ok-poll.ensures.turn

pub returns-in-Err-Spent-clause-fault : goal.returns-in-Err-Spent-clause-fault
returns-in-Err-Spent-clause-fault g c =
    let on = subst (λ (s : PlainCache). s.settings.enabled ≡ true) c.self.view_is c.if-not-self.false in
    let fault = rw (c.in_ok-poll.ensures.settings, c.in_ok-poll.ensures.limit, c.in_ok-poll.ensures.ticked, c.in-Err-Spent.field-0-is) at c.in-Err-Spent.ensures.fault in
    subst (λ (s : PlainCache). StopsAt (tick c.args.self.now.settings c.args.self.now.reloads c.args.now c.args.files.now.files c.args.self.now.ticked c.args.self.now.cache) s.cache c.in-Err-Spent.count) (sym c.self-2.view_is)
    (tick_faults c.args.self.now.settings c.args.self.now.reloads c.args.now c.args.files.now.files c.args.self.now.ticked c.args.self.now.cache c.poll.new.self.cache c.check.new.self.cache (Spent c.in-Err-Spent.count) on c.in_ok-poll.ensures.turn fault)
