use Rattle.std.proofs.Common.{Some, ap, sym, subst, ◌∙◌}
use Rattle.nsc_model.specs.Files.{FilesFit}
use Rattle.nsc_rule.proofs.Sources.{later_changed, sound_changed}
use Rattle.nsc_rule.proofs.pen.Pen.change.Goals as goal

pub write-requires-clause-sound : goal.write-requires-clause-sound
write-requires-clause-sound c = rw c.head-version.ensures (sound_changed _ c.of-content.result.value (subst FilesFit (sym c.of-content.ensures) c.learn-2.ensures) (λ e. c.requires.new (e ∙ ap Some c.of-content.ensures)) c.requires.room c.learn.ensures.sound)

pub write-requires-clause-later : goal.write-requires-clause-later
write-requires-clause-later c = rw c.head-version.ensures (later_changed _ c.of-content.result.value c.requires.active)
