use Rattle.std.proofs.Common.{◌≡◌}
use Rattle.nsc_reader.specs.Stages.{Comes, left_at}
use Rattle.nsc_reader.proofs.reply.past_reply.Given as goal

abbrev pub invariant-blocks-2 : goal.invariant-blocks-2
invariant-blocks-2 l = record {
  limit : l.out.limit ≡ l.fn.out.limit;
  comes : Comes l.map.layout l.fn.pass l.pass l.out.content (left_at l.map.layout l.fn.stage) l.next;
}

abbrev pub decreases-blocks-2 : goal.decreases-blocks-2
decreases-blocks-2 l = left_at l.map.layout l.next
