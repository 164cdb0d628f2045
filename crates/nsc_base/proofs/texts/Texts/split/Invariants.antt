use Rattle.nsc_base.proofs.Splits.{IsSplit}
use Rattle.nsc_base.proofs.texts.Texts.split.Given as goal

abbrev pub invariant-loop-at : goal.invariant-loop-at
invariant-loop-at l = IsSplit l.cut l.text l.run.items l.ends.items l.begun l.to l.at
