use Rattle.std.proofs.Common.{arith}
use Rattle.nsc_rule.proofs.Steady.{sound_slide, later_stored, slide_high}
use Rattle.nsc_rule.proofs.pen.Pen.slide_word.Goals as goal

pub write-requires-clause-sound : goal.write-requires-clause-sound
write-requires-clause-sound c = sound_slide _ _ _ c.requires.place c.requires.odd c.learn.ensures.sound

pub write-requires-clause-later : goal.write-requires-clause-later
write-requires-clause-later c = let high = slide_high _ c.requires.place in later_stored _ _ _ (omega arith) c.requires.active
