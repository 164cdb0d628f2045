use Rattle.std.proofs.Common.{arith}
use Rattle.nsc_rule.proofs.Steady.{later_stored, sound_first_free}
use Rattle.nsc_rule.proofs.pen.Pen.first_free.Goals as goal

pub write-requires-clause-sound : goal.write-requires-clause-sound
write-requires-clause-sound c = sound_first_free _ _ c.requires.behind c.learn.ensures.sound

pub write-requires-clause-later : goal.write-requires-clause-later
write-requires-clause-later c = later_stored _ _ _ (omega arith) c.requires.active
