use Rattle.std.proofs.Common.{◌≡◌, true, subst}
use Rattle.nsc_words.specs.Laid.{Laid}
use Rattle.nsc_rule.specs.Pen.{Pen}
use Rattle.nsc_rule.specs.Plans.{IsEven}
use Rattle.nsc_rule.proofs.Callers.{whole}
use Rattle.nsc_rule.proofs.pen.Pen.learn.Goals as goal

pub returns-clause-laid : goal.returns-clause-laid
returns-clause-laid c = subst (λ (p : Pen). p.plan.counted ≡ true → IsEven p.plan → Laid p.plan.words p.plan.layout p.plan.nodes) c.self.view_is (whole _ c.self.invariant.1)
