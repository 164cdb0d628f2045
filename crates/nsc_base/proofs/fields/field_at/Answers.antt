use Rattle.std.proofs.Common.{◌≤◌, ◌+◌, ◌∙◌, Some, None, slice_range, arith, ap}
use Rattle.memchr.specs.Find.{IsFirstByte, is_byte}
use Rattle.nsc_base.proofs.Places.{field-found, field-last, same_span}
use Rattle.nsc_base.proofs.fields.field_at.Goals as goal
use Rattle.nsc_base.proofs.fields.field_at.Goals.{in-Some, in-None}

pub returns-clause-field : goal.returns-clause-field
returns-clause-field c =
    let before : c.args.from ≤ c.args.within.to = omega (arith, c.to-end.ensures.place) in
    elim c.match-memchr.branch [
      | in-Some w ↦
          let found : IsFirstByte (is_byte c.args.cut) (slice_range c.args.text.now c.args.from c.args.within.to) (Some w.in-Some.n) = rw (← c.to-end.ensures.place) w.in-Some.ensures in
          field-found c.args.cut c.args.text.now c.args.within c.args.from w.in-Some.n _ (c.new.ensures ∙ same_span _ _ _ w.to-is) (ap (λ k. k + 1) w.to-is) c.requires before found
      | in-None w ↦
          let missing : IsFirstByte (is_byte c.args.cut) (slice_range c.args.text.now c.args.from c.args.within.to) None = rw (← c.to-end.ensures.place) w.in-None.ensures in
          field-last c.args.cut c.args.text.now c.args.within c.args.from _ (c.new.ensures ∙ same_span _ _ _ (w.to-is ∙ c.to-end.ensures.place)) (ap (λ k. k + 1) (w.to-is ∙ c.to-end.ensures.place)) before missing
    ]
