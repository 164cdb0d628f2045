use Rattle.nsc_rule.proofs.Steady.{later_node_counted, sound_node_counted}
use Rattle.nsc_rule.proofs.pen.Pen.loads.Goals as goal

pub write-requires-clause-sound : goal.write-requires-clause-sound
write-requires-clause-sound c = sound_node_counted _ _ c.requires.behind c.requires.all c.learn.ensures.sound

pub write-requires-clause-later : goal.write-requires-clause-later
write-requires-clause-later c = later_node_counted _ _ c.requires.active
