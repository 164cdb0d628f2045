use Rattle.std.proofs.Common.{◌∙◌, subst}
use Rattle.nsc_model.specs.declared.conf.Conf.{Conf}
use Rattle.nsc_model.specs.declared.exit.Exit.TheVariants as exits
use Rattle.nsc_replay.specs.Streams.{streams_at}
use Rattle.nsc_replay.specs.Runs.{ReplayRun}
use Rattle.nsc_replay.proofs.OneRound.{late}
use Rattle.nsc_replay.proofs.Chains.{chained}
use Rattle.nsc_replay.proofs.rounds.all_rounds.Goals as goal

pub loop-place-preserved : goal.loop-place-preserved
loop-place-preserved g c =
    let now = streams_at g.R.Source g.K.Sink c.loop-place.input c.loop-place.output in
    let next = streams_at g.R.Source g.K.Sink c.round.new.input c.round.new.output in
    record {
      settings_stay = c.in-Ok.ensures.settings ∙ c.loop-place.invariant.settings_stay;
      chain = λ after by r. c.loop-place.invariant.chain after by
          (chained c.loop-place.machine.settings c.loop-place.machine.state c.round.new.machine.state c.loop-place.place c.in-Ok.next now next after c.in-Ok.ensures.goes by
          (subst (λ (settings : Conf). ReplayRun settings c.round.new.machine.state c.in-Ok.next record { before = next; after = after } by) c.in-Ok.ensures.settings r));
      calm = record {
        input_stays = c.in-Ok.ensures.calm.input_stays ∙ c.loop-place.invariant.calm.input_stays;
        output_stays = c.in-Ok.ensures.calm.output_stays ∙ c.loop-place.invariant.calm.output_stays;
      };
    }

pub returns-clause-run : goal.returns-clause-run
returns-clause-run g c =
    let now = streams_at g.R.Source g.K.Sink c.loop-place.input c.loop-place.output in
    c.loop-place.invariant.chain now (exits.BadFrame c.loop-place.place) (late c.loop-place.machine.settings c.loop-place.machine.state c.loop-place.place now c.loop-place-test.false)
