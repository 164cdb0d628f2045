use Rattle.std.proofs.Common.{arith}
use Rattle.nsc_rule.proofs.Steady.{sound_count, later_stored}
use Rattle.nsc_rule.proofs.pen.Pen.count.Goals as goal

pub write-requires-clause-sound : goal.write-requires-clause-sound
write-requires-clause-sound c = sound_count _ _ _ c.requires.low c.requires.high c.learn.ensures.sound

pub write-requires-clause-later : goal.write-requires-clause-later
write-requires-clause-later c = let low = c.requires.low in later_stored _ _ _ (omega arith) c.requires.active
