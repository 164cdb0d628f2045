use Rattle.std.proofs.Common.{◌∙◌, ap}
use Rattle.std.specs.Arc.{arc_value}
use Rattle.nsc_words.specs.declared.layout.Layout.{Layout}
use Rattle.nsc_model.specs.Machine.{polled, room_of}
use Rattle.nsc_turns.proofs.Polled.{polls_complete, polls_same}
use Rattle.nsc_replay.proofs.Cacheds.{kept_same, layout_completed}
use Rattle.nsc_replay.proofs.cached.Cached.poll.Goals as goal

pub invariant_of-self-in-Ok : goal.invariant_of-self-in-Ok
invariant_of-self-in-Ok g c =
    let d = c.self.inside in
    let inv = c.self.invariant in
    let p = polls_complete (polled (arc_value c.in_ok-content.field-0) d.writer.cache) c.epoch-epoch.result d.writer c.record_poll.new.self c.in-Ok.stamp c.in-Ok.ensures.polls in
    let same = layout_completed (polled (arc_value c.in_ok-content.field-0) d.writer.cache) d.writer c.record_poll.new.self p.0 in
    (c.in-Ok.ensures.newest.sources ∙ c.in_ok-content.ensures, ap (λ (x : Layout). x.arena) same.0 ∙ inv.1, same.1 ∙ inv.2, inv.3)

pub invariant_of-self-in-Err : goal.invariant_of-self-in-Err
invariant_of-self-in-Err g c =
    let d = c.self.inside in
    let inv = c.self.invariant in
    let same = polls_same (polled (arc_value c.in_ok-content.field-0) d.writer.cache) c.epoch-epoch.result d.writer c.record_poll.new.self c.in-Err.spent c.in-Err.ensures.polls in
    let k = kept_same d.is_polled d.files (room_of d.settings) d.writer c.record_poll.new.self same (inv.0, inv.1, inv.2) in
    (k.0, k.1, k.2, inv.3)
