use Rattle.nsc_rule.proofs.Sources.{later_polled, sound_polled}
use Rattle.nsc_rule.proofs.pen.Pen.poll.Goals as goal

pub write-requires-clause-sound : goal.write-requires-clause-sound
write-requires-clause-sound c = sound_polled _ _ c.head-version.ensures c.learn.ensures.sound

pub write-requires-clause-later : goal.write-requires-clause-later
write-requires-clause-later c = later_polled _ _ c.requires.active
