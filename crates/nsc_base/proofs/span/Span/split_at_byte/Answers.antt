use Rattle.std.proofs.Common.{◌≢◌, ◌+◌, ap, sym, ◌∙◌}
use Rattle.nsc_base.specs.declared.span.Span.{Span}
use Rattle.nsc_base.proofs.FirstBytes.{no_split, split}
use Rattle.nsc_base.proofs.span.Span.split_at_byte.Goals as goal

pub returns-then-to : goal.returns-then-to
returns-then-to c = no_split c.args.byte c.args.text.now c.args.self c.before_byte-front.result c.requires c.before_byte-front.ensures.inside c.before_byte-front.ensures.begins c.before_byte-front.ensures.bytes (sym c.to.ensures.place ∙ c.if-to.true ∙ c.to-2.ensures.place)

pub returns : goal.returns
returns c =
    let more : c.before_byte-front.result.to ≢ c.args.self.to = λ e. c.if-to.false (c.to.ensures.place ∙ e ∙ sym c.to-2.ensures.place) in
    split c.args.byte c.args.text.now c.args.self c.before_byte-front.result c.new.result c.requires c.before_byte-front.ensures.inside c.before_byte-front.ensures.begins c.before_byte-front.ensures.bytes more
    (ap (λ (s : Span). s.from) c.new.ensures ∙ ap (λ k. k + 1) c.to-3.ensures.place) (ap (λ (s : Span). s.to) c.new.ensures ∙ c.to-4.ensures.place)
