use Rattle.nsc_turns.proofs.Renewed.{ReloadsOn}
use Rattle.nsc_turns.proofs.ticks.reload.Given as goal

abbrev pub invariant-loop-at : goal.invariant-loop-at
invariant-loop-at l = ReloadsOn l.due l.loads l.initial.writer l.at l.writer
