use Rattle.std.proofs.Common.{◌≡◌, ◌∷◌, ◌++◌, ℕ, List, drop}
use Rattle.std.specs.Prelude.{flat_map}
use Rattle.nsc_model.specs.Wire.{text}
use Rattle.nsc_client.specs.Lent.{LendsTexts}
use Rattle.nsc_client.proofs.spelled.put_each_after.Given as goal

-- what was put, and the texts that are left
abbrev pub invariant-loop-at : goal.invariant-loop-at
invariant-loop-at l =
    (all : List (List ℕ)) → (lends : LendsTexts l.texts all) → (l.rest ≡ flat_map text (drop l.at all) ++ lends.rest)
    × (l.out.items ++ flat_map (λ one. l.separator ∷ one) (drop l.at all) ≡ l.fn.out.items ++ flat_map (λ one. l.separator ∷ one) all)
