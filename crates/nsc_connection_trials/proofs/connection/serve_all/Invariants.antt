use Rattle.nsc_server.specs.Passes.{ArePasses}
use Rattle.nsc_connection_trials.proofs.connection.serve_all.Given as goal

abbrev pub invariant-loop-place : goal.invariant-loop-place
invariant-loop-place g l = ArePasses g.S.Store l.stores l.passes
