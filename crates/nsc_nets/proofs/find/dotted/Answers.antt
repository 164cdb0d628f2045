use Rattle.std.proofs.Common.{rules, ◌∷◌, ◌++◌, decimal, get_or, refl, ◌∙◌, ap}
use Rattle.nsc_nets.proofs.DottedTexts.{text_after_dot}
use Rattle.nsc_nets.proofs.find.dotted.Goals as goal

pub returns-clause-text : goal.returns-clause-text
returns-clause-text c =
    text_after_dot c.args.octets c.dotted_before-first.new.bytes c.dotted_before-first.result _ (search rules) refl (search rules)
    (c.dotted_before-first.ensures.written ∙ ap (λ ds. 46 ∷ (decimal (get_or c.args.octets 0 0) ++ ds)) (c.dotted_before-second.ensures.written ∙ ap (λ ds. 46 ∷ (decimal (get_or c.args.octets 1 0) ++ ds)) (c.dotted_before-third.ensures.written ∙ ap (λ ds. 46 ∷ (decimal (get_or c.args.octets 2 0) ++ ds)) c.dotted_before-last.ensures.written)))
