use Rattle.std.proofs.Common.{◌≡◌, ◌∙◌, Ok, Result, ap, refl, subst, sym}
use Rattle.nsc_model.specs.declared.fault.CacheFault.TheVariants as faults
use Rattle.nsc_model.specs.Machine.{Passed, Stopped, checked, polled, tick, ticked_after, unchanged}
use Rattle.nsc_turns.specs.Turns.{Completes, Stops}
use Rattle.nsc_turns.proofs.Events.{completes_then}
use Rattle.nsc_turns.proofs.Machines.{tick_off, tick_on}
use Rattle.nsc_replay.specs.Cached.{Cached, Faults, GivesUp}
use Rattle.nsc_replay.proofs.Cacheds.{faults_first, faults_then, kept_after}
use Rattle.nsc_replay.proofs.cached.Cached.tick.Goals as goal

pub returns-then-not-self-clause-turn : goal.returns-then-not-self-clause-turn
returns-then-not-self-clause-turn g c =
    let s = c.args.self.now in
    let off = sym (ap (λ (x : Cached). x.settings.enabled) c.self.view_is) ∙ c.if-not-self.true in
    subst (λ (r : Result Passed Stopped). Completes r s.writer s.writer) (sym (tick_off s.settings s.reloads c.args.now s.files s.ticked s.writer.cache off)) refl

pub returns-in-Err-clause-fault : goal.returns-in-Err-clause-fault
returns-in-Err-clause-fault g c =
    let s = c.args.self.now in
    let on = sym (ap (λ (x : Cached). x.settings.enabled) c.self.view_is) ∙ c.if-not-self.false in
    tick_on (λ (r : Result Passed Stopped). Faults r s.files s.writer c.poll.new.self.writer c.in-Err.fault) s.settings s.reloads c.args.now s.files s.ticked s.writer.cache on
    (faults_first s.files (checked s.settings s.reloads c.args.now s.ticked) s.writer c.poll.new.self.writer c.in-Err.fault c.in-Err.ensures.fault)

pub returns-in-Ok-check-clause-turn : goal.returns-in-Ok-check-clause-turn
returns-in-Ok-check-clause-turn g c =
    let s = c.args.self.now in
    let p = c.poll.new.self in
    let w' = c.check.new.self.writer in
    let on = sym (ap (λ (x : Cached). x.settings.enabled) c.self.view_is) ∙ c.if-not-self.false in
    let turn = subst (λ (x : Cached). Completes (checked x.settings x.reloads c.args.now x.ticked p.writer.cache) p.writer w') c.poll.ensures.rest c.in-Ok-check.ensures.turn in
    let whole = completes_then (polled s.files s.writer.cache) (checked s.settings s.reloads c.args.now s.ticked) s.writer p.writer w' c.in-Ok.ensures.polled turn in
    subst (λ (x : Cached). Completes (tick s.settings s.reloads c.args.now s.files s.ticked s.writer.cache) s.writer x.writer) (sym c.self-2.view_is)
    (tick_on (λ (r : Result Passed Stopped). Completes r s.writer w') s.settings s.reloads c.args.now s.files s.ticked s.writer.cache on whole)

pub returns-in-Err-Spent-clause-kept : goal.returns-in-Err-Spent-clause-kept
returns-in-Err-Spent-clause-kept g c =
    let s = c.args.self.now in
    let p = c.poll.new.self in
    subst (λ (x : Cached). c.ticked_after-kept.result ≡ ticked_after x.settings x.ticked (Ok (unchanged p.writer.cache))) c.poll.ensures.rest c.ticked_after-kept.ensures
    ∙ kept_after s.settings s.ticked (polled s.files s.writer.cache) s.writer p.writer c.in-Ok.ensures.polled

pub returns-in-Err-Spent-clause-fault : goal.returns-in-Err-Spent-clause-fault
returns-in-Err-Spent-clause-fault g c =
    let s = c.args.self.now in
    let p = c.poll.new.self in
    let w' = c.check.new.self.writer in
    let on = sym (ap (λ (x : Cached). x.settings.enabled) c.self.view_is) ∙ c.if-not-self.false in
    let spent = rw c.in-Err-Spent.field-0-is at c.in-Err-Spent.ensures.fault in
    let fault = subst (λ (x : Cached). GivesUp (checked x.settings x.reloads c.args.now x.ticked p.writer.cache) p.writer w' (faults.Spent c.in-Err-Spent.count)) c.poll.ensures.rest spent in
    subst (λ (x : Cached). Stops (tick s.settings s.reloads c.args.now s.files s.ticked s.writer.cache) c.in-Err-Spent.count s.writer x.writer) (sym c.self-2.view_is)
    (tick_on (λ (r : Result Passed Stopped). Stops r c.in-Err-Spent.count s.writer w') s.settings s.reloads c.args.now s.files s.ticked s.writer.cache on
    (faults_then s.files (checked s.settings s.reloads c.args.now s.ticked) s.writer p.writer w' (faults.Spent c.in-Err-Spent.count) c.in-Ok.ensures.polled fault))
