-- What goes beside an answer is the answer to the id request.
use Rattle.std.proofs.Common.{◌≡◌, ◌∙◌, cond, Bool, List, ℕ, Some, None, sym, ap}
use Rattle.nsc_model.specs.declared.answer.Request.{Request}
use Rattle.nsc_model.specs.declared.kind.Kind.{Kind}
use Rattle.nsc_model.specs.Answer.{Answer}
use Rattle.nsc_model.specs.Answers.{answer_of, request_beside}
use Rattle.nsc_model.specs.Content.{Content}
use Rattle.nsc_writer.specs.Loaded.{Loaded}
use Rattle.nsc_turns.specs.Loads.{loaded_id, loaded_of}
use Rattle.nsc_turns.proofs.answering.load_beside.Goals as goal

-- an answer to a request over files is one over what they are known to be
answered_again : (answer own : Answer) (files held : Content) (kind : Kind) (request : Request) → answer ≡ own → own ≡ answer_of held request → files ≡ held → kind ≡ request.kind → answer ≡ answer_of files (record { kind = kind; key = request.key })
answered_again answer own files held kind request is said content by = is ∙ said ∙ sym (λ i. answer_of (content i) (record { kind = by i; key = request.key }))

pub id_request-requires : goal.id_request-requires
id_request-requires g c = record {
  answered = (
    c.args.loaded.now.request.key,
    answered_again c.answer.result.now c.args.loaded.now.answer c.deref.result.now (g.A.Answerer.prepared_from c.args.ready.now) c.kind.result c.args.loaded.now.request c.answer.ensures c.requires.answered (c.deref.ensures ∙ c.content-content.ensures) c.kind.ensures,
  );
}

pub returns : goal.returns
returns g c =
    let a = c.args.answering.now in
    let held = g.A.Answerer.prepared_from c.args.ready.now in
    let request = c.args.loaded.now.request in
    let files = c.deref.ensures ∙ c.content-content.ensures in
    let said = answered_again c.answer.result.now c.args.loaded.now.answer c.deref.result.now held c.kind.result request c.answer.ensures c.requires.answered files c.kind.ensures in
    let id = sym c.in-Some.is ∙ c.in_ok-id.ensures.request request.key said ∙ (λ i. request_beside (files i) (record { kind = c.kind.ensures i; key = request.key })) in
    ap (λ (l : Loaded). Some l) (c.in_ok-beside.ensures ∙ ap (λ (k : List ℕ). loaded_of a held (record { kind = c.in-Some.id.kind; key = k }) 0) c.as_slice.ensures)
    ∙ ap (loaded_id a held) id
    ∙ sym (ap (λ (b : Bool). cond b (loaded_id a held (request_beside held request)) None) c.if-not-answering.false)
