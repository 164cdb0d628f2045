use Rattle.nsc_rule.specs.Seats.{plan_by}
use Rattle.nsc_rule.specs.Strokes.{after}
use Rattle.nsc_rule.proofs.pen.Pen.write.Given as goal

abbrev pub ghosts-put : goal.ghosts-put
ghosts-put a = record { plan = after a.stroke.now a.at a.word (plan_by a.seat.now.me.0) }
