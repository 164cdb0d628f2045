use Rattle.std.proofs.Common.{◌≡◌, map, take}
use Rattle.nsc_turns.specs.Loads.{anew_of}
use Rattle.nsc_turns.proofs.answering.loads.Given as goal

abbrev pub invariant-loop-one : goal.invariant-loop-one
invariant-loop-one g l = l.loads.items ≡ map (anew_of l.answering (g.A.Answerer.prepared_from l.ready)) (take l.one-index l.due)
