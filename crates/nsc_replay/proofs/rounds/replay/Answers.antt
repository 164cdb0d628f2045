use Rattle.nsc_model.specs.Replay.{first_state}
use Rattle.nsc_replay.specs.Streams.{streams_at}
use Rattle.nsc_replay.proofs.Chains.{replays}
use Rattle.nsc_replay.proofs.OneRound.{no_start}
use Rattle.nsc_replay.proofs.rounds.replay.Goals as goal

pub returns-in-Err-clause-run : goal.returns-in-Err-clause-run
returns-in-Err-clause-run g c = no_start c.args.conf.now first_state 0 (streams_at g.R.Source g.K.Sink c.args.input.now c.args.output.now)

pub returns-clause-exits : goal.returns-clause-exits
returns-clause-exits g c = replays _ _ _ _ _ _ _ c.all_rounds.ensures.run.ends
