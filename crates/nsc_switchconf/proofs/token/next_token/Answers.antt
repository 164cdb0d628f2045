use Rattle.std.proofs.Common.{◌≡◌, [], ◌∷◌, drop, sym, ap, ◌∙◌}
use Rattle.std.proofs.lemmas.List.{nil_from_length}
use Rattle.nsc_model.specs.Switches.{Word, tokens_of}
use Rattle.nsc_switchconf.proofs.Words.{tokens-sign, tokens-none, tokens-word}
use Rattle.nsc_switchconf.proofs.token.next_token.Goals as goal

pub returns-in_err-first-clause-token : goal.returns-in_err-first-clause-token
returns-in_err-first-clause-token c =
    let none : tokens_of c.args.text.now ≡ [] = ap tokens_of (nil_from_length _ c.in_err-first.ensures.cases) ∙ tokens-none in
    rw c.from_residual.ensures none

pub returns-in-Some-clause-token : goal.returns-in-Some-clause-token
returns-in-Some-clause-token c =
    ap tokens_of c.in_ok-first.ensures.cases.0 ∙ tokens-sign c.in_ok-first.first.now c.in_ok-first.rest.now _ c.in-Some.ensures

pub returns-in-None-clause-token : goal.returns-in-None-clause-token
returns-in-None-clause-token c =
    let text = c.args.text.now in
    let n = c.word_length.result in
    tokens-word text c.in_ok-first.first.now c.in_ok-first.rest.now n c.in_ok-first.ensures.cases.0 c.in-None.ensures c.word_length.ensures.run
    ∙ ap (λ word. Word word ∷ tokens_of (drop n text)) (sym c.split_at.ensures.front)
    ∙ ap (λ rest. Word c.split_at.result.0.now ∷ tokens_of rest) (sym c.split_at.ensures.back)
