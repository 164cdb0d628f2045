use Rattle.std.proofs.Common.{◌∙◌, rules}
use Rattle.nsc_rule.proofs.Moves.{looks_as}
use Rattle.nsc_rule.proofs.steps.look.Goals as goal

pub load-requires : goal.load-requires
load-requires g c = (search rules, search rules, looks_as _ _ _ _ _ g.J.Tells.told c.requires.none (λ p sound layout fits. c.requires.tells p sound (layout ∙ c.words.ensures.key) fits))
