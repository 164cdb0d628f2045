use Rattle.std.proofs.Common.{ap, subst}
use Rattle.nsc_model.specs.History.{IsPrefix}
use Rattle.nsc_rule.specs.Pass.{Pass}
use Rattle.nsc_writer.specs.Former.{Former}
use Rattle.nsc_writer.proofs.Later.{prefix_through}
use Rattle.nsc_writer.proofs.former.Former.agree.Goals as goal

pub returns-clause-before : goal.returns-clause-before
returns-clause-before c =
    subst (λ (s : Pass). IsPrefix c.args.pass.now.seen s.seen) (ap (λ (f : Former). f.stock) c.self.view_is)
    (prefix_through c.args.pass.now.seen c.self.inside.pen.plan.seen c.self.inside.stock.seen (subst (λ (p : Pass). IsPrefix p.seen c.self.inside.pen.plan.seen) c.split-copy.ensures.pass c.show.ensures.before) c.self.invariant.4)
