use Rattle.std.proofs.lemmas.Result.{IfErr-weaker, on_ok_weaker}
use Rattle.nsc_daemon.proofs.Ends.{at_length, at_opening}
use Rattle.nsc_daemon.proofs.opening.opened.Goals as goal

pub returns-clause-calm : goal.returns-clause-calm
returns-clause-calm g c = on_ok_weaker c.open.result (λ none. none.0) c.open.ensures.no_fault

pub returns-clause-fault : goal.returns-clause-fault
returns-clause-fault g c = IfErr-weaker c.open.result _ _ (λ fault none. at_opening g.F.FileSet c.args.files.now c.open.new.files fault none) c.open.ensures.fault

pub returns-clause-length : goal.returns-clause-length
returns-clause-length g c = IfErr-weaker c.open.result _ _ (λ fault none. at_length g.F.FileSet c.args.files.now c.open.new.files fault none) c.open.ensures.fault
