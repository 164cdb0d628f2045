use Rattle.std.specs.Prelude.{◌≡◌}
use Rattle.nsc_model.specs.Entry.{kept_limit}
use Rattle.nsc_loads.proofs.reads.Reads.read.Given as goal

abbrev pub invariant-loop-turn : goal.invariant-loop-turn
invariant-loop-turn g l = l.out.limit ≡ kept_limit
