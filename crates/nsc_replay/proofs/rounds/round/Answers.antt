use Rattle.std.proofs.Common.{subst, sym, ap, ◌+◌, refl}
use Rattle.std.proofs.lemmas.Result.{err_from_is_err_and}
use Rattle.nsc_model.specs.Frames as frames
use Rattle.nsc_model.specs.Frames.{frame_at}
use Rattle.nsc_model.specs.declared.exit.Exit.{Exit}
use Rattle.nsc_replay.specs.Streams.{streams}
use Rattle.nsc_replay.specs.Runs.{ReplayRun}
use Rattle.nsc_replay.specs.Reading.{Gets}
use Rattle.nsc_replay.specs.Frame.{said}
use Rattle.nsc_replay.proofs.OneRound.{goes_on, does_not, stops, halts_run}
use Rattle.nsc_replay.proofs.rounds.round.Goals as goal

pub returns-then-is_end-clause-ends : goal.returns-then-is_end-clause-ends
returns-then-is_end-clause-ends g c =
    let both = streams g.R.Source g.K.Sink c.args.input.now c.read_frame.new.input c.args.output.now c.args.output.now in
    stops c.args.machine.now.settings c.args.machine.now.state c.args.place both refl c.requires
    (subst (λ (f : frames.Frame). Gets frame_at both.before.input.bytes both.after.input.bytes f) c.if-is_end.ensures.end c.in-Ok.ensures.reads)

pub returns-in-Err-clause-ends : goal.returns-in-Err-clause-ends
returns-in-Err-clause-ends g c =
    let both = streams g.R.Source g.K.Sink c.args.input.now c.read_frame.new.input c.args.output.now c.args.output.now in
    subst (λ (by : Exit). ReplayRun c.args.machine.now.settings c.args.machine.now.state c.args.place both by) (sym c.at.ensures)
    (halts_run c.args.machine.now.settings c.args.machine.now.state c.args.place both refl c.in-Err.halt c.requires c.in-Err.ensures.reads)

pub returns-in_err-serve-clause-ends : goal.returns-in_err-serve-clause-ends
returns-in_err-serve-clause-ends g c =
    let both = streams g.R.Source g.K.Sink c.args.input.now c.read_frame.new.input c.args.output.now c.serve.new.output in
    let p = err_from_is_err_and c.from_residual.result c.from_residual.ensures.1 in
    rw (p.1, p.2)
    (does_not c.args.machine.now.settings c.args.machine.now.state c.args.place (said c.in-Ok.frame) both c.in_err-serve.field-0.0 c.requires c.in-Ok.ensures.reads c.if-is_end.ensures.others c.in_err-serve.ensures.ends)

pub returns-clause-goes : goal.returns-clause-goes
returns-clause-goes g c =
    let both = streams g.R.Source g.K.Sink c.args.input.now c.read_frame.new.input c.args.output.now c.serve.new.output in
    goes_on c.args.machine.now.settings c.args.machine.now.state c.serve.new.machine.state c.args.place (c.args.place + c.size.result) (said c.in-Ok.frame) both
    c.requires c.in-Ok.ensures.reads c.if-is_end.ensures.others c.in_ok-serve.ensures.done (ap (λ n. c.args.place + n) c.size.ensures.size)
