use Rattle.std.proofs.Common.{◌∙◌, Ok}
use Rattle.std.specs.Arc.{arc_value}
use Rattle.nsc_model.specs.Machine.{polled}
use Rattle.nsc_writer.specs.Writer.{refusal_of}
use Rattle.nsc_turns.specs.Turns.{missed}
use Rattle.nsc_reader_trials.proofs.Stills.{inserted_stays, polled_stays}
use Rattle.nsc_reader_trials.proofs.loading.insert_key.Goals as goal

pub returns-clause-still : goal.returns-clause-still
returns-clause-still c =
    let w = c.args.writer.now in
    let p = c.record_poll.new.self in
    let l = c.in_ok-loaded.loaded in
    let first = polled_stays (polled (arc_value c.in_ok-clone.field-0) w.cache) c.epoch-epoch.result w p (Ok c.in-Ok.stamp) c.in-Ok.ensures.polls in
    let then = inserted_stays (refusal_of (missed l p) l) c.insert-said.result.0 l (missed l p) c.insert-said.new.writer c.insert-said.ensures.inserted in
    then.slide ∙ first.slide ∙ c.requires.still

pub returns-clause-table : goal.returns-clause-table
returns-clause-table c =
    let w = c.args.writer.now in
    let p = c.record_poll.new.self in
    let l = c.in_ok-loaded.loaded in
    let first = polled_stays (polled (arc_value c.in_ok-clone.field-0) w.cache) c.epoch-epoch.result w p (Ok c.in-Ok.stamp) c.in-Ok.ensures.polls in
    let then = inserted_stays (refusal_of (missed l p) l) c.insert-said.result.0 l (missed l p) c.insert-said.new.writer c.insert-said.ensures.inserted in
    then.table ∙ first.table
