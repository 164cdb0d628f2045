use Rattle.std.proofs.Common.{◌≡◌, ◌++◌, ◌∷◌, [], length, arith}
use Rattle.std.proofs.lemmas.Grind.{common_steps}
use Rattle.nsc_base.proofs.Runs.{is_run, pushed}
use Rattle.nsc_base.proofs.texts.Texts.push.Goals as goal

pub invariant_of-self-2 : goal.invariant_of-self-2
invariant_of-self-2 c =
    let run : c.push.new.self.items ≡ (c.self.inside.run.items ++ c.args.text.now) ++ 0 ∷ [] = grind (arith, common_steps) in
    let ends : c.push-2.new.self.items ≡ c.self.inside.ends.items ++ length c.push.new.self.items ∷ [] = grind (arith, common_steps) in
    rw (ends, run) (is_run c.self.inside.run.items c.self.inside.ends.items c.args.text.now c.self.invariant)

pub returns-clause-added : goal.returns-clause-added
returns-clause-added c =
    let run : c.push.new.self.items ≡ (c.self.inside.run.items ++ c.args.text.now) ++ 0 ∷ [] = grind (arith, common_steps) in
    let ends : c.push-2.new.self.items ≡ c.self.inside.ends.items ++ length c.push.new.self.items ∷ [] = grind (arith, common_steps) in
    rw (ends, run, ← c.self.view_is) (pushed c.self.inside.run.items c.self.inside.ends.items c.args.text.now c.self.invariant)
