use Rattle.std.proofs.Common.{◌≡◌, vec_len}
use Rattle.nsc_sockets.proofs.shared_sink.blank.Given as goal

abbrev pub invariant-loop : goal.invariant-loop
invariant-loop l = vec_len l.cells ≡ l.counter
