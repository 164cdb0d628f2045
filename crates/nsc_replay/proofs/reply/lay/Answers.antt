use Rattle.nsc_replay.proofs.Outputs.{laid}
use Rattle.nsc_replay.proofs.reply.lay.Goals as goal

pub returns : goal.returns
returns c = rw (c.copy_from_slice.ensures.after, c.copy_from_slice-2.ensures.after) (laid c.args.size.now c.args.reply.now _ _ c.told-size)
