use Rattle.std.proofs.Common.{◌≡◌, ◌-◌}
use Rattle.nsc_wire.specs.Replies.{texts_at}
use Rattle.nsc_wire.proofs.ReplyLoops.{with_front}
use Rattle.nsc_wire.proofs.reading.texts.Given as goal

abbrev pub invariant-loop : goal.invariant-loop
invariant-loop l = with_front l.texts (texts_at (l.count - l.counter) l.lengths l.rest) ≡ texts_at l.count l.fn.lengths l.bytes
