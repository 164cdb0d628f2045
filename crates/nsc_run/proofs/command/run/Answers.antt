use Rattle.std.proofs.Common.{◌∙◌, Option, Some, ap, refl, subst, sym}
use Rattle.nsc_run.specs.Forms.{Form, form_of, texts}
use Rattle.nsc_run.specs.Shown.{shown}
use Rattle.nsc_run.specs.Runs.{BindsByForm, RunsByForm, outside}
use Rattle.nsc_run.proofs.Claims.{no_refusal, refused, run_done, run_tells}
use Rattle.nsc_run.proofs.command.run.Goals as goal

pub returns-in-Ok-Replay-clause-ok : goal.returns-in-Ok-Replay-clause-ok
returns-in-Ok-Replay-clause-ok g c =
    let before = outside g.R.Source g.K.Sink g.F.FileSet g.I.ImageStore g.N.Listener c.args.input.now c.args.output.now c.args.files.now c.args.images.now c.args.net.now in
    let after = outside g.R.Source g.K.Sink g.F.FileSet g.I.ImageStore g.N.Listener c.replay_under.new.input c.replay_under.new.output c.replay_under.new.files c.args.images.now c.args.net.now in
    run_done g.N.In.Source g.N.Out.Sink before after c.replay_under.result (form_of (texts c.args.words.now))
    (subst (λ (form : Option Form). RunsByForm g.N.In.Source g.N.Out.Sink form before after c.replay_under.result) (sym (c.in-Ok-Replay.ensures.ok ∙ ap (λ form. Some (shown form)) c.in-Ok-Replay.field-0-is))
    (c.replay_under.ensures.run, c.replay_under.ensures.counts, record { given_stays = refl; peer_stays = refl; calm = refl }, refl))

pub returns-in-Ok-Ask-clause-complete : goal.returns-in-Ok-Ask-clause-complete
returns-in-Ok-Ask-clause-complete g c =
    let before = outside g.R.Source g.K.Sink g.F.FileSet g.I.ImageStore g.N.Listener c.args.input.now c.args.output.now c.args.files.now c.args.images.now c.args.net.now in
    let after = outside g.R.Source g.K.Sink g.F.FileSet g.I.ImageStore g.N.Listener c.args.input.now c.ask.new.output c.args.files.now c.args.images.now c.ask.new.net in
    run_tells g.N.In.Source g.N.Out.Sink before after c.ask.result (form_of (texts c.args.words.now))
    (subst (λ (form : Option Form). RunsByForm g.N.In.Source g.N.Out.Sink form before after c.ask.result) (sym (c.in-Ok-Ask.ensures.ok ∙ ap (λ form. Some (shown form)) c.in-Ok-Ask.field-0-is))
    (c.ask.ensures.asks, refl, record { held_stays = refl; conf_stays = refl; calm = refl }, refl))

pub returns-in-Ok-Daemon-clause-complete : goal.returns-in-Ok-Daemon-clause-complete
returns-in-Ok-Daemon-clause-complete g c =
    let before = outside g.R.Source g.K.Sink g.F.FileSet g.I.ImageStore g.N.Listener c.args.input.now c.args.output.now c.args.files.now c.args.images.now c.args.net.now in
    let after = outside g.R.Source g.K.Sink g.F.FileSet g.I.ImageStore g.N.Listener c.args.input.now c.serve.new.output c.serve.new.files c.serve.new.images c.serve.new.net in
    run_tells g.N.In.Source g.N.Out.Sink before after c.serve.result (form_of (texts c.args.words.now))
    (subst (λ (form : Option Form). RunsByForm g.N.In.Source g.N.Out.Sink form before after c.serve.result) (sym (c.in-Ok-Daemon.ensures.ok ∙ ap (λ form. Some (shown form)) c.in-Ok-Daemon.field-0-is))
    (c.serve.ensures.course, refl))

pub returns-in-Err-clause-runs : goal.returns-in-Err-clause-runs
returns-in-Err-clause-runs g c =
    refused g.N.In.Source g.N.Out.Sink (outside g.R.Source g.K.Sink g.F.FileSet g.I.ImageStore g.N.Listener c.args.input.now c.args.output.now c.args.files.now c.args.images.now c.args.net.now) (form_of (texts c.args.words.now)) c.in-Err.exit c.in-Err.ensures.err

pub returns-in-Err-clause-complete : goal.returns-in-Err-clause-complete
returns-in-Err-clause-complete g c =
    let before = outside g.R.Source g.K.Sink g.F.FileSet g.I.ImageStore g.N.Listener c.args.input.now c.args.output.now c.args.files.now c.args.images.now c.args.net.now in
    run_tells g.N.In.Source g.N.Out.Sink before before c.in-Err.exit (form_of (texts c.args.words.now))
    (refused g.N.In.Source g.N.Out.Sink before (form_of (texts c.args.words.now)) c.in-Err.exit c.in-Err.ensures.err)

pub returns-in-Ok-Replay-clause-bound : goal.returns-in-Ok-Replay-clause-bound
returns-in-Ok-Replay-clause-bound g c ok = subst (λ (form : Option Form). BindsByForm form (g.N.Listener.bound c.args.net.now) (g.N.Listener.bound c.args.net.now)) (sym (c.in-Ok-Replay.ensures.ok ∙ ap (λ form. Some (shown form)) c.in-Ok-Replay.field-0-is)) refl

pub returns-in-Ok-Ask-clause-bound : goal.returns-in-Ok-Ask-clause-bound
returns-in-Ok-Ask-clause-bound g c ok = subst (λ (form : Option Form). BindsByForm form (g.N.Listener.bound c.args.net.now) (g.N.Listener.bound c.ask.new.net)) (sym (c.in-Ok-Ask.ensures.ok ∙ ap (λ form. Some (shown form)) c.in-Ok-Ask.field-0-is)) c.ask.ensures.bound

pub returns-in-Ok-Workload-clause-bound : goal.returns-in-Ok-Workload-clause-bound
returns-in-Ok-Workload-clause-bound g c ok = subst (λ (form : Option Form). BindsByForm form (g.N.Listener.bound c.args.net.now) (g.N.Listener.bound c.args.net.now)) (sym (c.in-Ok-Workload.ensures.ok ∙ ap (λ form. Some (shown form)) c.in-Ok-Workload.field-0-is)) refl

pub returns-in-Ok-Daemon-clause-bound : goal.returns-in-Ok-Daemon-clause-bound
returns-in-Ok-Daemon-clause-bound g c ok = subst (λ (form : Option Form). BindsByForm form (g.N.Listener.bound c.args.net.now) (g.N.Listener.bound c.serve.new.net)) (sym (c.in-Ok-Daemon.ensures.ok ∙ ap (λ form. Some (shown form)) c.in-Ok-Daemon.field-0-is)) (c.serve.ensures.bound ok)

pub returns-in-Err-clause-bound : goal.returns-in-Err-clause-bound
returns-in-Err-clause-bound g c ok = absurd (no_refusal (form_of (texts c.args.words.now)) c.in-Err.exit c.in-Err.ensures.err ok)
