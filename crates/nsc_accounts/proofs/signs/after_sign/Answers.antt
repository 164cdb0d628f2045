use Rattle.std.proofs.Common.{◌+◌, ap, ◌∙◌, arith}
use Rattle.nsc_base.specs.declared.span.Span.{Span}
use Rattle.nsc_model.specs.Compat.{first_field}
use Rattle.nsc_accounts.proofs.SignLines.{after_first}
use Rattle.nsc_accounts.proofs.signs.after_sign.Goals as goal

pub returns-clause-name : goal.returns-clause-name
returns-clause-name c b bytes is =
    let from = ap (λ (s : Span). s.from) c.new.ensures ∙ ap (λ n. n + 1) c.from.ensures.place in
    let to = ap (λ (s : Span). s.to) c.new.ensures ∙ c.to.ensures.place in
    c.before_byte.ensures.bytes ∙ ap first_field (after_first c.args.text.now c.args.all c.new.result (omega (arith, c.requires.filled)) from to b bytes is)
