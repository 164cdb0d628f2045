use Rattle.std.proofs.Common.{◌≡◌, ◌-◌}
use Rattle.nsc_model.specs.Frames.{place_limit}
use Rattle.nsc_model.specs.declared.exit.Exit.{Exit}
use Rattle.nsc_replay.specs.Streams.{StreamsAt, Calm, streams_at}
use Rattle.nsc_replay.specs.Runs.{ReplayRun}
use Rattle.nsc_replay.proofs.rounds.all_rounds.Given as goal

-- whatever the outcome of the rest is, it is that of the whole
abbrev pub invariant-loop-place : goal.invariant-loop-place
invariant-loop-place g l =
    let begun = streams_at g.R.Source g.K.Sink l.fn.input l.fn.output in
    let now = streams_at g.R.Source g.K.Sink l.input l.output in
    record {
      settings_stay : l.machine.settings ≡ l.fn.machine.settings;
      chain : (after : StreamsAt) (exit : Exit) → ReplayRun l.machine.settings l.machine.state l.place record { before = now; after = after } exit → ReplayRun l.fn.machine.settings l.fn.machine.state 0 record { before = begun; after = after } exit;
      calm : Calm record { before = begun; after = now };
    }

abbrev pub decreases-loop-place : goal.decreases-loop-place
decreases-loop-place g l = place_limit - l.place
