use Rattle.nsc_replay.specs.Streams.{streams}
use Rattle.nsc_run.proofs.Ends.{ok_run, tells}
use Rattle.nsc_run.proofs.command.replay.Goals as goal

pub returns : goal.returns
returns g c =
    let conf = c.args.conf.now in
    let both = streams g.R.Source g.K.Sink c.args.input.now c.replay.new.input c.args.output.now c.replay.new.output in
    let run = c.replay.ensures.run in
    let counts = c.replay.ensures.counts in
    record {
      ok = ok_run conf both c.replay.result run;
      run = run;
      counts = counts;
      complete = tells conf both c.replay.result run counts;
    }
