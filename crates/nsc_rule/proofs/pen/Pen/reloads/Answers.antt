use Rattle.std.proofs.Common.{arith}
use Rattle.nsc_rule.proofs.Altered.{later_reloaded, node_inside, sound_reloaded}
use Rattle.nsc_rule.proofs.pen.Pen.reloads.Goals as goal

pub overflow_add-place : goal.overflow_add-place
overflow_add-place c = let node = c.requires.node in let at = node_inside _ node.0 c.requires.even c.learn.ensures.sound node.1 in let is = node.2 in let sizes = c.learn.ensures.sound.sizes in let few = sizes.buckets in let small = sizes.room in omega arith

pub write-requires-clause-inside : goal.write-requires-clause-inside
write-requires-clause-inside c = let node = c.requires.node in let at = node_inside _ node.0 c.requires.even c.learn.ensures.sound node.1 in let is = node.2 in let sizes = c.learn.ensures.sound.sizes in let few = sizes.buckets in let small = sizes.room in omega arith

pub write-requires-clause-sound : goal.write-requires-clause-sound
write-requires-clause-sound c = sound_reloaded _ _ _ c.requires.even c.requires.node c.learn.ensures.sound

pub write-requires-clause-later : goal.write-requires-clause-later
write-requires-clause-later c = later_reloaded _ _ _ c.requires.active
