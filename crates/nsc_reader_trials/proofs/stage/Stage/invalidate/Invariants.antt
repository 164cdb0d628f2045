use Rattle.std.proofs.Common.{◌≡◌, None}
use Rattle.nsc_reader_trials.proofs.stage.Stage.invalidate.Given as goal

abbrev pub invariant-loop-number : goal.invariant-loop-number
invariant-loop-number l = l.self.slide ≡ None
