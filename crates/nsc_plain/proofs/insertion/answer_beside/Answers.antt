-- What goes beside an answer is the answer to the id request.
use Rattle.std.proofs.Common.{◌≡◌, ◌∙◌, cond, Bool, true, List, ℕ, Option, Some, None, sym, ap}
use Rattle.nsc_model.specs.declared.answer.Request.{Request}
use Rattle.nsc_model.specs.Answers.{answer_of, request_beside}
use Rattle.nsc_model.specs.Content.{Content}
use Rattle.nsc_model.specs.declared.conf.DbConf.{DbConf}
use Rattle.nsc_plain.specs.Insertion.{Insertion, answered_id, beside}
use Rattle.nsc_plain.proofs.insertion.answer_beside.Goals as goal

-- with `auto-propagate`
beside_on : (conf : DbConf) (files : Content) (request : Request) (id : Option Request) → conf.propagate ≡ true → id ≡ request_beside files request → answered_id files id ≡ beside conf files request
beside_on conf files request id on is = ap (answered_id files) is ∙ sym (ap (λ (b : Bool). cond b (answered_id files (request_beside files request)) None) on)

pub returns-in_default-clause-beside : goal.returns-in_default-clause-beside
returns-in_default-clause-beside g c key is =
    let files = c.args.files.now.files in
    let request : Request = record { kind = c.args.kind; key = key } in
    let said = is ∙ sym (ap (λ (f : Content). answer_of f request) (c.deref.ensures ∙ c.content.ensures)) in
    let id = sym c.in_default.is ∙ c.in_ok-request.ensures.request key said ∙ ap (λ (f : Content). request_beside f request) (c.deref.ensures ∙ c.content.ensures) in
    beside_on c.args.conf.now files request None c.if-not-conf.false id

pub returns-clause-beside : goal.returns-clause-beside
returns-clause-beside g c key is =
    let files = c.args.files.now.files in
    let request : Request = record { kind = c.args.kind; key = key } in
    let said = is ∙ sym (ap (λ (f : Content). answer_of f request) (c.deref.ensures ∙ c.content.ensures)) in
    let id = sym c.in-Some.is ∙ c.in_ok-request.ensures.request key said ∙ ap (λ (f : Content). request_beside f request) (c.deref.ensures ∙ c.content.ensures) in
    let made = c.in_ok-answer.ensures.answer ∙ ap (λ (k : List ℕ). answer_of files (record { kind = c.in-Some.request.kind; key = k })) c.as_slice.ensures in
    ap (λ (i : Insertion). Some i) (c.new.ensures ∙ (λ i. let r : Insertion = record { request = c.in-Some.request; answer = made i; reloads = 0 } in r))
    ∙ beside_on c.args.conf.now files request (Some c.in-Some.request) c.if-not-conf.false id
