use Rattle.std.proofs.Common.{arith}
use Rattle.nsc_rule.proofs.Steady.{later_stored}
use Rattle.nsc_rule.proofs.Unlinked.{link_within, sound_unlinked}
use Rattle.nsc_rule.proofs.pen.Pen.unlink.Goals as goal

pub write-requires-clause-inside : goal.write-requires-clause-inside
write-requires-clause-inside c = (link_within _ _ c.requires.link.even c.requires.link.link c.learn.ensures.sound).1

pub write-requires-clause-sound : goal.write-requires-clause-sound
write-requires-clause-sound c = sound_unlinked _ _ _ c.requires.link c.learn.ensures.sound

pub write-requires-clause-later : goal.write-requires-clause-later
write-requires-clause-later c = let at = link_within _ _ c.requires.link.even c.requires.link.link c.learn.ensures.sound in later_stored _ _ _ (omega arith) c.requires.active
