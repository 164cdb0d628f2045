use Rattle.nsc_model.specs.Machine.{room_of}
use Rattle.nsc_replay.proofs.Cacheds.{kept_invalidated}
use Rattle.nsc_replay.proofs.cached.Cached.invalidate.Goals as goal

pub invariant_of-self : goal.invariant_of-self
invariant_of-self g c =
    let d = c.self.inside in
    let inv = c.self.invariant in
    let k = kept_invalidated c.invalidate.result d.is_polled d.files (room_of d.settings) d.writer c.invalidate.new.writer c.invalidate.ensures.completes c.invalidate.ensures.stops (inv.0, inv.1, inv.2) in
    (k.0, k.1, k.2, inv.3)
