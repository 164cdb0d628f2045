-- No bytes spell two netgroups, or both answers on a triple.
use Rattle.std.proofs.Common.{◌≡◌, ◌≢◌, ℕ, Bool, true, false, List, [], ◌∷◌, ◌++◌, length, drop, flat_map, All, refl, sym, ap, subst, arith}
use Rattle.std.proofs.lemmas.List.Elements.{All-head, All-tail}
use Rattle.nsc_model.specs.Wire.{text, netgroup_found, member_found, AreTriples, IsText}
use Rattle.nsc_laws.proofs.Spellings.{head_is, tail_is, length_text}

-- a text that can be sent, and what is behind it: the first zero byte ends the text
cut_text : (a b r s : List ℕ) → IsText a → IsText b → text a ++ r ≡ text b ++ s → (a ≡ b) × (r ≡ s)
cut_text [] [] r s a_is b_is e = (refl, ap (drop 1) e)
cut_text [] (y ∷ b) r s a_is b_is e = absurd (All-head (λ z. z ≢ 0) y b b_is (sym (head_is 0 y r (text b ++ s) e)))
cut_text (x ∷ a) [] r s a_is b_is e = absurd (All-head (λ z. z ≢ 0) x a a_is (head_is x 0 (text a ++ r) s e))
cut_text (x ∷ a) (y ∷ b) r s a_is b_is e =
    let h : x ≡ y = head_is x y (text a ++ r) (text b ++ s) e in
    let more = cut_text a b r s (All-tail (λ z. z ≢ 0) x a a_is) (All-tail (λ z. z ≢ 0) y b b_is) (tail_is x y (text a ++ r) (text b ++ s) e) in
    (subst (λ z. x ∷ a ≡ z ∷ b) h (ap (λ c. x ∷ c) more.0), more.1)

-- texts that can be sent, one behind the other
cut_texts : (xs ys : List (List ℕ)) → All IsText xs → All IsText ys → flat_map text xs ≡ flat_map text ys → xs ≡ ys
cut_texts [] [] a b e = refl
cut_texts [] (y ∷ ys) a b e = absurd (omega (arith, length_text y (flat_map text ys), ap (λ (l : List ℕ). length l) e))
cut_texts (x ∷ xs) [] a b e = absurd (omega (arith, length_text x (flat_map text xs), ap (λ (l : List ℕ). length l) e))
cut_texts (x ∷ xs) (y ∷ ys) a b e =
    let first = cut_text x y (flat_map text xs) (flat_map text ys) (All-head IsText x xs a) (All-head IsText y ys b) e in
    let later = cut_texts xs ys (All-tail IsText x xs a) (All-tail IsText y ys b) first.1 in
    subst (λ (z : List ℕ). x ∷ xs ≡ z ∷ ys) first.0 (ap (λ more. x ∷ more) later)

-- the texts are behind four fields
pub same_netgroup : (xs ys : List (List ℕ)) → AreTriples xs → AreTriples ys → netgroup_found xs ≡ netgroup_found ys → xs ≡ ys
same_netgroup xs ys xs_are ys_are e = cut_texts xs ys xs_are.texts_are ys_are.texts_are (ap (drop 16) e)

-- the third field tells the two answers apart
pub same_member : (a b : Bool) → member_found a ≡ member_found b → a ≡ b
same_member true true e = refl
same_member true false e = absurd cc
same_member false true e = absurd cc
same_member false false e = refl
