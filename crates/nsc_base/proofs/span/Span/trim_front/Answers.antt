use Rattle.std.proofs.Common.{◌-◌, List, ℕ, length, ap, ◌∙◌}
use Rattle.nsc_base.specs.declared.span.Span.{Span}
use Rattle.nsc_base.specs.Text.{trimmed}
use Rattle.nsc_base.proofs.FirstBytes.{trimmed_part}
use Rattle.nsc_base.proofs.span.Span.trim_front.Goals as goal

pub returns-clause-bytes : goal.returns-clause-bytes
returns-clause-bytes c =
    trimmed_part c.args.text.now c.args.self c.new.result c.of.ensures.ordered c.requires
    (ap (λ (s : Span). s.from) c.new.ensures ∙ ap (λ k. k - length c.trim_front-rest.result.now) c.to.ensures.place ∙ ap (λ (bs : List ℕ). c.args.self.to - length bs) (c.trim_front-rest.ensures.rest ∙ ap trimmed c.of.ensures.bytes))
    (ap (λ (s : Span). s.to) c.new.ensures ∙ c.to-2.ensures.place)
