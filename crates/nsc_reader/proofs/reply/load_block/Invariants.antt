use Rattle.std.proofs.Common.{◌+◌, ◌-◌, ◌*◌, ◌++◌, min, take}
use Rattle.nsc_reader.specs.Stages.{Keeps, reply_in}
use Rattle.nsc_reader.proofs.Replies.{IsCopying}
use Rattle.nsc_reader.proofs.reply.load_block.Given as goal

abbrev pub invariant-loop-index : goal.invariant-loop-index
invariant-loop-index l = record {
  keeps : Keeps l.fn.pass l.pass;
  copying : IsCopying l.map.layout l.place l.size l.number l.version (l.copied + l.index) (l.out.content ++ take (min (8 * l.index) (reply_in l.size - 8 * l.copied)) l.block) l.pass;
}
