use Rattle.nsc_daemon.proofs.Ends.{told_end}
use Rattle.nsc_daemon.proofs.acceptor.Acceptor.serve.Goals as goal

pub returns-in-ShutDown-clause-told : goal.returns-in-ShutDown-clause-told
returns-in-ShutDown-clause-told g c =
    let served = c.in-ShutDown.ensures.served in
    told_end _ c.args.role (g.R.Source.left c.args.input) _ served.front served.moved served.ends.0 served.ends.2.0
