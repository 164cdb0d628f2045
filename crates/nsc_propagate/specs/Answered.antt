-- What is known of an answer by the requests that it answers.
use Rattle.std.specs.Prelude.{◌≡◌, ℕ, List}
use Rattle.nsc_model.specs.declared.answer.Request.{Request}
use Rattle.nsc_model.specs.declared.kind.Kind.{Kind}
use Rattle.nsc_model.specs.Answer.{Answer}
use Rattle.nsc_model.specs.Answers.{answer_of}
use Rattle.nsc_model.specs.Content.{Content}

-- P holds of each request of this kind that has this answer over a content
abbrev pub OfAnswered : Content → Kind → Answer → (Request → Type 0) → Type 0
OfAnswered content kind answer P = (key : List ℕ) → answer ≡ answer_of content (record { kind = kind; key = key }) → P (record { kind = kind; key = key })
