use Rattle.std.proofs.Common.{◌≡◌}
use Rattle.nsc_model.specs.Entry.{kept_limit}
use Rattle.nsc_client.specs.Gate.{ArePasses}
use Rattle.nsc_connection_trials.proofs.lines.connections.Given as goal

abbrev pub invariant-loop-place : goal.invariant-loop-place
invariant-loop-place g l = ArePasses g.S.Store l.stores l.passes × (l.out.limit ≡ kept_limit)
