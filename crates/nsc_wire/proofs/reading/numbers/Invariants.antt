use Rattle.std.proofs.Common.{◌≡◌, ◌-◌}
use Rattle.nsc_wire.specs.Replies.{numbers_at}
use Rattle.nsc_wire.proofs.ReplyLoops.{with_front}
use Rattle.nsc_wire.proofs.reading.numbers.Given as goal

abbrev pub invariant-loop : goal.invariant-loop
invariant-loop l = with_front l.numbers.items (numbers_at (l.count - l.counter) l.rest) ≡ numbers_at l.count l.bytes
