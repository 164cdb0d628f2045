use Rattle.nsc_rule.proofs.Steady.{sound_free, later_free}
use Rattle.nsc_rule.proofs.pen.Pen.store.Goals as goal

pub write-requires-clause-sound : goal.write-requires-clause-sound
write-requires-clause-sound c = sound_free _ _ _ c.requires.free c.learn.ensures.sound

pub write-requires-clause-later : goal.write-requires-clause-later
write-requires-clause-later c = later_free _ _ _ c.requires.active c.requires.free c.learn.ensures.sound
