use Rattle.std.proofs.Common.{sym, ◌∙◌}
use Rattle.nsc_daemonconf.proofs.Tables.{found_here, found_later, found_none}
use Rattle.nsc_daemonconf.proofs.attributes.named.Goals as goal

pub returns-then-eq : goal.returns-then-eq
returns-then-eq g c =
    sym (found_here c.args.table.now c.args.word.now c.loop-name.name-index c.loop-name-item.result c.loop-name-test.true c.loop-name-item.is (sym c.if-eq.ensures)) ∙ c.loop-name.invariant

pub loop-name-preserved : goal.loop-name-preserved
loop-name-preserved g c =
    sym (found_later c.args.table.now c.args.word.now c.loop-name.name-index c.loop-name-item.result c.loop-name-test.true c.loop-name-item.is (sym c.if-eq.ensures)) ∙ c.loop-name.invariant

pub returns : goal.returns
returns g c = sym (found_none c.args.table.now c.args.word.now c.loop-name.name-index c.loop-name-test.false) ∙ c.loop-name.invariant
