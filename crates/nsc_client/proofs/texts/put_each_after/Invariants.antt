use Rattle.std.proofs.Common.{◌≡◌, ◌∷◌, ◌++◌, drop}
use Rattle.std.specs.Prelude.{flat_map}
use Rattle.nsc_client.proofs.texts.put_each_after.Given as goal

-- what was put, and the texts that are left
abbrev pub invariant-loop-at : goal.invariant-loop-at
invariant-loop-at l = l.out.items ++ flat_map (λ text. l.separator ∷ text) (drop l.at l.texts) ≡ l.fn.out.items ++ flat_map (λ text. l.separator ∷ text) (drop l.from l.texts)
