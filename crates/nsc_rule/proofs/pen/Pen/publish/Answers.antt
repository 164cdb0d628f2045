use Rattle.nsc_rule.proofs.Linked.{later_linked, link_inside, sound_linked}
use Rattle.nsc_rule.proofs.pen.Pen.publish.Goals as goal

pub write-requires-clause-inside : goal.write-requires-clause-inside
write-requires-clause-inside c = link_inside _ _ _ c.learn.ensures.sound c.requires.ready

pub write-requires-clause-sound : goal.write-requires-clause-sound
write-requires-clause-sound c = sound_linked _ _ _ c.requires.ready c.learn.ensures.sound

pub write-requires-clause-later : goal.write-requires-clause-later
write-requires-clause-later c = later_linked _ _ _ c.requires.active c.requires.ready c.learn.ensures.sound
