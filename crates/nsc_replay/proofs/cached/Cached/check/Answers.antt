use Rattle.std.proofs.Common.{Ok, subst}
use Rattle.std.specs.Prelude.{IfErr}
use Rattle.nsc_model.specs.Machine.{checked, is_outdated, room_of}
use Rattle.nsc_replay.specs.Cached.{Cached, GivesUp}
use Rattle.nsc_replay.proofs.Cacheds.{kept_faulted, kept_invalidated, renewal_faults}
use Rattle.nsc_replay.proofs.cached.Cached.check.Goals as goal

pub invariant_of-self : goal.invariant_of-self
invariant_of-self g c =
    let d = c.self.inside in
    let inv = c.self.invariant in
    let checks = rw c.in-Ok-Emptied.field-0-is at c.in-Ok-Emptied.ensures in
    let k = kept_invalidated (Ok 0) d.is_polled d.files (room_of d.settings) d.writer c.check.new.writer checks.1 tt (inv.0, inv.1, inv.2) in
    (k.0, k.1, k.2, inv.3)

pub invariant_of-self-in-Err : goal.invariant_of-self-in-Err
invariant_of-self-in-Err g c =
    let d = c.self.inside in
    let inv = c.self.invariant in
    let k = kept_faulted c.in-Err.fault (is_outdated d.settings d.writer.cache.newest_version d.ticked) d.reloads c.args.now d.is_polled d.files (room_of d.settings) d.writer c.check.new.writer c.in-Err.ensures (inv.0, inv.1, inv.2) in
    (k.0, k.1, k.2, inv.3)

pub returns-in-Ok-Listed-clause-fault : goal.returns-in-Ok-Listed-clause-fault
returns-in-Ok-Listed-clause-fault g c =
    let d = c.self.inside in
    let checks = rw c.in-Ok-Listed.field-0-is at c.in-Ok-Listed.ensures in
    subst (λ (x : Cached). IfErr c.renew.result (GivesUp (checked x.settings x.reloads c.args.now x.ticked x.writer.cache) x.writer c.renew.new.self.writer)) c.self.view_is
    (renewal_faults c.renew.result d.settings d.reloads c.args.now d.ticked d.writer c.check.new.writer c.renew.new.self.writer checks.0 checks.2 c.renew.ensures.fault)
