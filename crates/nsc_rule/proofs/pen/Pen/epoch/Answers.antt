use Rattle.nsc_rule.proofs.Sources.{later_invalidated, sound_invalidated}
use Rattle.nsc_rule.proofs.pen.Pen.epoch.Goals as goal

pub write-requires-clause-sound : goal.write-requires-clause-sound
write-requires-clause-sound c = rw c.head-epoch.ensures (sound_invalidated _ c.requires.ended c.requires.room c.learn.ensures.sound)

pub write-requires-clause-later : goal.write-requires-clause-later
write-requires-clause-later c = rw c.head-epoch.ensures (later_invalidated _ c.requires.active)
