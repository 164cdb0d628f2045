-- Texts joined by a byte.
use Rattle.std.proofs.Common.{◌≡◌, ℕ, ◌<◌, List, [], ◌∷◌, ◌++◌, length, drop, get_or, append-nil, append_assoc, arith, ap, sym, ◌∙◌}
use Rattle.std.specs.Prelude.{flat_map}
use Rattle.std.specs.List.{join_with_byte}

-- the first, and the others, each after the byte
pub joined : (c : ℕ) (text : List ℕ) (texts : List (List ℕ)) → join_with_byte c (text ∷ texts) ≡ text ++ flat_map (λ t. c ∷ t) texts
joined c text [] = sym (append-nil text)
joined c text (next ∷ texts) = ap (λ rest. text ++ c ∷ rest) (joined c next texts)

-- bytes after which the first and the others are put
pub joined_after : (c : ℕ) (out put text : List ℕ) (texts : List (List ℕ)) → put ≡ out ++ text → put ++ flat_map (λ t. c ∷ t) texts ≡ out ++ join_with_byte c (text ∷ texts)
joined_after c out put text texts h = ap (λ t. t ++ flat_map (λ t. c ∷ t) texts) h ∙ append_assoc out text (flat_map (λ t. c ∷ t) texts) ∙ ap (λ t. out ++ t) (sym (joined c text texts))

-- the first, a second one and the others
pub pair_joined_after : (c : ℕ) (out first put text next : List ℕ) (texts : List (List ℕ)) → first ≡ out ++ text → put ≡ first ++ c ∷ next
    → put ++ flat_map (λ t. c ∷ t) texts ≡ out ++ join_with_byte c (text ∷ next ∷ texts)
pair_joined_after c out first put text next texts h k =
    ap (λ t. t ++ flat_map (λ t. c ∷ t) texts) k ∙ append_assoc first (c ∷ next) (flat_map (λ t. c ∷ t) texts) ∙ joined_after c out first text (next ∷ texts) h

-- the same where the second one is put in two parts
pub halves_joined_after : (c : ℕ) (out first half put text front rest : List ℕ) (texts : List (List ℕ)) → first ≡ out ++ text → half ≡ first ++ c ∷ front → put ≡ half ++ rest
    → put ++ flat_map (λ t. c ∷ t) texts ≡ out ++ join_with_byte c (text ∷ (front ++ rest) ∷ texts)
halves_joined_after c out first half put text front rest texts h k l =
    pair_joined_after c out first put text (front ++ rest) texts h (l ∙ ap (λ t. t ++ rest) k ∙ append_assoc first (c ∷ front) rest)

-- all of a list that is not empty
pub all_joined_after : (c : ℕ) (out put first : List ℕ) (texts : List (List ℕ)) → 0 < length texts → first ≡ get_or texts 0 [] → put ≡ out ++ first
    → put ++ flat_map (λ t. c ∷ t) (drop 1 texts) ≡ out ++ join_with_byte c texts
all_joined_after c out put first [] some is h = absurd (omega (arith, some))
all_joined_after c out put first (text ∷ texts) some is h = joined_after c out put text texts (h ∙ ap (λ t. out ++ t) is)
