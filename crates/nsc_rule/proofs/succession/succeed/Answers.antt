use Rattle.std.proofs.Common.{◌≡◌, ◌∙◌, ap, subst, sym}
use Rattle.nsc_rule.specs.Pen.{Pen}
use Rattle.nsc_rule.specs.Plans.{Sound, succeeding}
use Rattle.nsc_rule.specs.Seats.{opening_plan}
use Rattle.nsc_rule.proofs.Opening.{sound_succeeding}
use Rattle.nsc_rule.proofs.succession.succeed.Goals as goal

pub begin-requires-clause-sound : goal.begin-requires-clause-sound
begin-requires-clause-sound c =
    let plan : opening_plan c.args.layout c.origin.result ≡ succeeding c.args.layout c.args.pen.now.plan = c.origin.ensures c.args.layout ∙ ap (λ (p : Pen). succeeding c.args.layout p.plan) c.loaded_heads-heads.ensures.same in
    subst Sound (sym plan) (sound_succeeding c.args.layout c.args.pen.now.plan c.requires.sizes c.requires.even c.requires.room c.learn.ensures.sound)
