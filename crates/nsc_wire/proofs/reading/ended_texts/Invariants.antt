use Rattle.std.proofs.Common.{◌≡◌, ◌-◌}
use Rattle.nsc_wire.specs.Replies.{ended_texts_at}
use Rattle.nsc_wire.proofs.ReplyLoops.{with_front}
use Rattle.nsc_wire.proofs.reading.ended_texts.Given as goal

abbrev pub invariant-loop : goal.invariant-loop
invariant-loop l = with_front l.texts (ended_texts_at (l.count - l.counter) l.rest) ≡ ended_texts_at l.count l.bytes
