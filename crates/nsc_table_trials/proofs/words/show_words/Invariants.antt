use Rattle.std.proofs.Common.{◌≡◌}
use Rattle.nsc_table_trials.proofs.words.show_words.Given as goal

abbrev pub invariant-loop-at : goal.invariant-loop-at
invariant-loop-at g l = l.writer.slide ≡ l.initial.writer.slide
