use Rattle.std.proofs.Common.{arith}
use Rattle.nsc_rule.proofs.Steady.{sound_finished, later_finished, odd_room}
use Rattle.nsc_rule.proofs.pen.Pen.even.Goals as goal

pub overflow_add-cycle : goal.overflow_add-cycle
overflow_add-cycle c = let low = odd_room _ c.requires.odd c.learn.ensures.sound in let is = c.head-cycle.ensures in omega arith

pub write-requires-clause-sound : goal.write-requires-clause-sound
write-requires-clause-sound c = rw c.head-cycle.ensures (sound_finished _ c.requires.active c.requires.odd c.requires.slid c.learn.ensures.sound)

pub write-requires-clause-later : goal.write-requires-clause-later
write-requires-clause-later c = rw c.head-cycle.ensures (later_finished _ c.requires.active c.learn.ensures.sound)
