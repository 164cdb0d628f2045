use Rattle.std.proofs.Common.{◌+◌}
use Rattle.std.specs.Arc.{arc_value}
use Rattle.std.proofs.lemmas.Result.{IfErr-weaker, on_ok_weaker}
use Rattle.nsc_plain.proofs.Events.{bare, invalidation_stops, invalidation_passes, invalidation_faults}
use Rattle.nsc_plain.proofs.cache.PlainCache.invalidate.Goals as goal

pub returns-then-self-eq-LAST_COUNT-clause-fault : goal.returns-then-self-eq-LAST_COUNT-clause-fault
returns-then-self-eq-LAST_COUNT-clause-fault c = rw (← c.self.view_is) (invalidation_stops _ c.if-self-eq-LAST_COUNT.true)

pub returns-clause-turn : goal.returns-clause-turn
returns-clause-turn c =
    let base = bare (arc_value c.self.inside.content) c.self.inside.newest_version (c.self.inside.epoch + 1) in
    rw (← c.self.view_is) (on_ok_weaker c.end_all.result (λ h. invalidation_passes _ _ c.if-self-eq-LAST_COUNT.false (h base)) c.end_all.ensures.turn)

pub returns-clause-fault : goal.returns-clause-fault
returns-clause-fault c =
    let base = bare (arc_value c.self.inside.content) c.self.inside.newest_version (c.self.inside.epoch + 1) in
    rw (← c.self.view_is) (IfErr-weaker c.end_all.result _ _ (λ fault h. invalidation_faults _ _ fault c.if-self-eq-LAST_COUNT.false (h base)) c.end_all.ensures.fault)
