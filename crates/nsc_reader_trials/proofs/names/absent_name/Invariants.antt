use Rattle.std.proofs.Common.{◌≡◌, length}
use Rattle.nsc_reader_trials.proofs.names.absent_name.Given as goal

abbrev pub invariant-loop-digit : goal.invariant-loop-digit
invariant-loop-digit l = length l.name ≡ 920
