use Rattle.nsc_rule.proofs.Steady.{sound_left, later_left}
use Rattle.nsc_rule.proofs.pen.Pen.retire.Goals as goal

pub write-requires-clause-sound : goal.write-requires-clause-sound
write-requires-clause-sound c = rw c.head-cycle.ensures (sound_left c.of-newer.result.value.table _ c.requires.even c.requires.room c.learn.ensures.sound)

pub write-requires-clause-later : goal.write-requires-clause-later
write-requires-clause-later c = rw c.head-cycle.ensures (later_left c.of-newer.result.value.table _ c.requires.active c.learn.ensures.sound)
