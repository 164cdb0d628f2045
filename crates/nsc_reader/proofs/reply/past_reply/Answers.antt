use Rattle.std.proofs.Common.{◌≡◌, ◌∙◌, ◌+◌, ◌-◌, ◌*◌, ◌≤◌, ap, arith}
use Rattle.nsc_reader.specs.Stages.{left_at}
use Rattle.nsc_reader.proofs.Runs.{comes_below, comes_then}
use Rattle.nsc_reader.proofs.reply.past_reply.Goals as goal

pub blocks-2-preserved : goal.blocks-2-preserved
blocks-2-preserved c =
    let layout = c.args.map.now.layout in
    let p = c.blocks-2.pass in
    let new = c.load_block-next.new.pass in
    let content = c.load_block-next.new.out.content in
    let left : left_at layout c.blocks-2.next ≡ 20000 * c.in-Reply.place + 9000 - c.in-Reply.copied = ap (left_at layout) c.in-Reply.is in
    let less : 20000 * c.in-Reply.place + 8999 - c.in-Reply.copied ≤ left_at layout c.blocks-2.next = omega arith in
    record {
      limit = c.load_block-next.ensures.limit ∙ c.blocks-2.invariant.limit;
      comes = comes_then layout c.args.pass.now p new c.blocks-2.out.content content (left_at layout c.args.stage) c.blocks-2.next c.load_block-next.result c.blocks-2.invariant.comes
          (comes_below layout p new content (20000 * c.in-Reply.place + 8999 - c.in-Reply.copied) (left_at layout c.blocks-2.next) c.load_block-next.result less c.load_block-next.ensures.comes);
    }
