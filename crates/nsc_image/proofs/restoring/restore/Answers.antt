use Rattle.std.proofs.Common.{◌+◌, arith}
use Rattle.nsc_image.proofs.Restores.{answered_next, newest_restored, none_ended, restores_next, versions_first}
use Rattle.nsc_image.proofs.restoring.restore.Goals as goal

pub insert-requires-clause-answered : goal.insert-requires-clause-answered
insert-requires-clause-answered g c =
    answered_next c.args.settings.now c.args.now (g.A.Answerer.prepared_from c.args.ready.now) c.args.writer.now c.entries.writer c.entries.yielded c.in-Some.saved c.in_ok-loaded.loaded c.learn.ensures.told c.requires.newest c.entries.invariant.is c.in_ok-loaded.ensures

pub entries-preserved-then-insert : goal.entries-preserved-then-insert
entries-preserved-then-insert g c =
    restores_next c.args.settings.now c.args.now (g.A.Answerer.prepared_from c.args.ready.now) c.args.image.now c.args.writer.now c.entries.writer c.insert.new.writer c.entries.yielded c.entries.saved-iterator c.next.new.self c.in-Some.saved c.in_ok-loaded.loaded c.entries.kept (c.entries.kept + 1)
    c.entries.invariant c.in-Some.ensures.steps c.in_ok-loaded.ensures c.insert.ensures.tried (let more = c.if-insert.ensures.inserted in let was = c.entries.invariant.counted in omega arith) (omega arith)

pub entries-preserved : goal.entries-preserved
entries-preserved g c =
    restores_next c.args.settings.now c.args.now (g.A.Answerer.prepared_from c.args.ready.now) c.args.image.now c.args.writer.now c.entries.writer c.insert.new.writer c.entries.yielded c.entries.saved-iterator c.next.new.self c.in-Some.saved c.in_ok-loaded.loaded c.entries.kept c.entries.kept
    c.entries.invariant c.in-Some.ensures.steps c.in_ok-loaded.ensures c.insert.ensures.tried (let same = c.if-insert.ensures.refused in let was = c.entries.invariant.counted in omega arith) (omega arith)

pub returns-in_err-loaded-clause-newest : goal.returns-in_err-loaded-clause-newest
returns-in_err-loaded-clause-newest g c = newest_restored c.args.settings.now c.args.now (g.A.Answerer.prepared_from c.args.ready.now) c.args.writer.now c.entries.writer c.entries.yielded c.requires.newest c.entries.invariant.is

pub returns-in_err-loaded-clause-versions : goal.returns-in_err-loaded-clause-versions
returns-in_err-loaded-clause-versions g c = versions_first c.args.settings.now c.args.now (g.A.Answerer.prepared_from c.args.ready.now) c.args.writer.now c.entries.writer c.entries.yielded c.requires.none c.entries.invariant.is

pub returns-in_err-loaded-clause-none_ended : goal.returns-in_err-loaded-clause-none_ended
returns-in_err-loaded-clause-none_ended g c = none_ended c.args.settings.now c.args.now (g.A.Answerer.prepared_from c.args.ready.now) c.args.writer.now c.entries.writer c.entries.yielded c.entries.invariant.is

pub returns-clause-newest : goal.returns-clause-newest
returns-clause-newest g c = newest_restored c.args.settings.now c.args.now (g.A.Answerer.prepared_from c.args.ready.now) c.args.writer.now c.entries.writer c.entries.yielded c.requires.newest c.entries.invariant.is

pub returns-clause-versions : goal.returns-clause-versions
returns-clause-versions g c = versions_first c.args.settings.now c.args.now (g.A.Answerer.prepared_from c.args.ready.now) c.args.writer.now c.entries.writer c.entries.yielded c.requires.none c.entries.invariant.is

pub returns-clause-none_ended : goal.returns-clause-none_ended
returns-clause-none_ended g c = none_ended c.args.settings.now c.args.now (g.A.Answerer.prepared_from c.args.ready.now) c.args.writer.now c.entries.writer c.entries.yielded c.entries.invariant.is
