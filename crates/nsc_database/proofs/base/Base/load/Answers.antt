use Rattle.std.proofs.Common.{◌∙◌, Option, ap, subst, sym}
use Rattle.std.specs.Prelude.{IfSome}
use Rattle.nsc_model.specs.declared.answer.Request.{Request}
use Rattle.nsc_model.specs.Answers.{answer_of}
use Rattle.nsc_turns.specs.Loads.{beside_of, loaded_of}
use Rattle.nsc_writer.specs.Loaded.{Loaded}
use Rattle.nsc_database.specs.Lookups.{answering_over}
use Rattle.nsc_database.specs.Rests.{IsLoadedOf}
use Rattle.nsc_database.specs.Ticks.{EndsInTime}
use Rattle.nsc_database.proofs.Beside.{beside_own}
use Rattle.nsc_database.proofs.base.Base.load.Goals as goal

pub returns : goal.returns
returns g c =
    let which = g.D.OfDb.db in
    let request : Request = record { kind = c.args.kind; key = c.args.key.now } in
    let a = answering_over c.args.self.now.settings c.args.polled.now c.args.now in
    let soon = subst EndsInTime c.answering-answering.ensures.value c.answering-answering.ensures.soon in
    let loaded = c.in_ok-loaded.ensures ∙ (λ i. loaded_of (c.answering-answering.ensures.value i) (c.ready-ready.ensures i) request 0) in
    let beside = c.in_ok-beside.ensures ∙ (λ i. beside_of (c.answering-answering.ensures.value i) (c.ready-ready.ensures i) (ap (λ (l : Loaded). l.request) c.in_ok-loaded.ensures i)) in
    record {
      loaded = loaded;
      own = subst (IsLoadedOf which) (sym loaded) (c.requires.kind, soon (answer_of c.args.polled.now.content request));
      beside = beside;
      beside_own = subst (λ (o : Option Loaded). IfSome o (IsLoadedOf which)) (sym beside) (beside_own which a c.args.polled.now.content request c.requires.kind soon);
    }
