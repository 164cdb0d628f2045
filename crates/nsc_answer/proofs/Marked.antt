-- What the switch finds has a reply of the request's kind, which is not too long.
use Rattle.std.proofs.Common.{◌≡◌, ◌≤◌, ℕ, List, length, IfOk, sym, subst, ap}
use Rattle.nsc_model.specs.declared.answer.Request.{Request}
use Rattle.nsc_model.specs.declared.row.Looked.{Looked}
use Rattle.nsc_model.specs.Answers.{answer_of, looked_up, marked}
use Rattle.nsc_model.specs.Content.{Content}
use Rattle.nsc_model.specs.Files.{FilesFit}
use Rattle.nsc_model.specs.Answer.{Answer, reply_limit}
use Rattle.nsc_model.specs.Outcomes.{reply_to}
use Rattle.nsc_model.specs.Wire.{IsReplyOf, spelled}
use Rattle.std.specs.declared.result.Result.{Result}
use Rattle.nsc_laws.proofs.Spelled.{answer_spells}

pub of_kind : (files : Content) (request : Request) (looked : Looked) → FilesFit files → looked ≡ looked_up files request → IsReplyOf request.kind (reply_to looked)
of_kind files request looked fit is = subst (λ (l : Looked). IsReplyOf request.kind (reply_to l)) (sym is) (answer_spells files request fit).of_kind

pub reply_fits : (files : Content) (request : Request) (looked : Looked) → FilesFit files → looked ≡ looked_up files request → length (spelled request.kind (reply_to looked)) ≤ reply_limit
reply_fits files request looked fit is =
    let spells = answer_spells files request fit in
    let found = subst (λ (bytes : List ℕ). length bytes ≤ reply_limit) spells.spelling spells.bound in
    subst (λ (l : Looked). length (spelled request.kind (reply_to l)) ≤ reply_limit) (sym is) found

-- so what marks it is the answer
pub is_answer : {E : Type 0} (files : Content) (request : Request) (looked : Looked) (result : Result Answer E) → looked ≡ looked_up files request → IfOk result (λ answer. answer ≡ marked request.kind looked) → IfOk result (λ answer. answer ≡ answer_of files request)
unfolding answer_of
is_answer files request looked result is marks = subst (λ (m : Answer). IfOk result (λ answer. answer ≡ m)) (ap (marked request.kind) is) marks
