use Rattle.std.proofs.Common.{List, subst, sym}
use Rattle.nsc_model.specs.History.{IsPrefix}
use Rattle.nsc_model.specs.declared.record.Record.{Record}
use Rattle.nsc_rule.specs.Pass.{Pass}
use Rattle.nsc_rule.proofs.Numbers.{prefix_through}
use Rattle.nsc_rule.proofs.succession.carry.Goals as goal

pub returns-clause-carried : goal.returns-clause-carried
returns-clause-carried c =
    let seen : List Record = c.args.old.now.seen in
    subst (λ (p : Pass). IsPrefix seen p.seen) (sym c.split.ensures.pass) (prefix_through seen c.args.retired.now.plan.seen c.args.stock.now.seen c.show.ensures.before c.requires.seen)
