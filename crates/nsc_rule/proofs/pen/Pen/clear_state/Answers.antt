use Rattle.std.proofs.Common.{arith}
use Rattle.nsc_rule.proofs.Altered.{later_cleared, node_inside, sound_cleared}
use Rattle.nsc_rule.proofs.pen.Pen.clear_state.Goals as goal

pub overflow_add-place : goal.overflow_add-place
overflow_add-place c = let node = c.requires.node in let at = node_inside _ node.0 c.requires.even c.learn.ensures.sound node.1 in let is = node.2 in let sizes = c.learn.ensures.sound.sizes in let few = sizes.buckets in let small = sizes.room in omega arith

pub write-requires-clause-inside : goal.write-requires-clause-inside
write-requires-clause-inside c = let node = c.requires.node in let at = node_inside _ node.0 c.requires.even c.learn.ensures.sound node.1 in let is = node.2 in let sizes = c.learn.ensures.sound.sizes in let few = sizes.buckets in let small = sizes.room in omega arith

pub write-requires-clause-sound : goal.write-requires-clause-sound
write-requires-clause-sound c = sound_cleared _ _ _ c.requires.even c.requires.node c.learn.ensures.sound

pub write-requires-clause-later : goal.write-requires-clause-later
write-requires-clause-later c = later_cleared _ _ _ c.requires.active
