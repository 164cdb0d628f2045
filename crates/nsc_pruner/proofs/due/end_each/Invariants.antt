use Rattle.nsc_pruner.proofs.Pruned.{EndsLeft}
use Rattle.nsc_pruner.proofs.due.end_each.Given as goal

abbrev pub invariant-loop-one : goal.invariant-loop-one
invariant-loop-one l = EndsLeft l.now l.initial.due l.initial.writer l.due l.one-index l.writer
