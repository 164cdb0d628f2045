-- What goes beside the answer is of the files that were made ready.
use Rattle.std.proofs.Common.{◌≡◌, ◌∙◌, ap, subst, IfOk}
use Rattle.nsc_model.specs.declared.answer.Request.{Request}
use Rattle.nsc_model.specs.declared.conf.DbConf.{DbConf}
use Rattle.nsc_model.specs.Content.{Content}
use Rattle.nsc_turns.specs.Loads.{beside_of}
use Rattle.nsc_replay.specs.Cached.{Cached}
use Rattle.nsc_replay.proofs.cached.Cached.load.Goals as goal

pub returns-clause-beside : goal.returns-clause-beside
returns-clause-beside g c =
    let request : Request = record { kind = c.args.kind; key = c.args.key.now } in
    let settings = ap (λ (x : Cached). x.settings) c.self.view_is in
    let files = c.in_ok-ready.ensures.ready ∙ ap (λ (x : Cached). x.files) c.self.view_is in
    subst (λ (x : DbConf × Content). IfOk c.load_both-made.result (λ l. l.1 ≡ beside_of (record { settings = x.0; stamp = c.args.stamp; moment = c.args.now }) x.1 request)) (λ i. (settings i, files i)) c.load_both-made.ensures.beside
