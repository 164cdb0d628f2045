-- What streams did, one call after another.
use Rattle.std.proofs.Common.{◌≡◌, ◌<◌, inl, inr, ℕ, ◌+◌, ◌-◌, ◌≤◌, List, [], ◌++◌, length, take, drop, Option, Some, None, refl, sym, ◌∙◌, ap, subst, append_assoc, append-nil, arith, rules}
use Rattle.std.proofs.lemmas.List.{take_at, take_all, same_lists, places, take-append-drop}
use Rattle.std.proofs.lemmas.Bool.{cases_eq}
use borrow.Rule.Slice.PartMut.{put_mid}
use Rattle.nsc_outside.specs.Stream.{Moves, Grows, GrowsByFront}
use Rattle.nsc_model.specs.Reads.{greatest, Rose}

-- a call that moved nothing
pub Moves-nothing : (before : Option (List ℕ)) → Moves before before []
Moves-nothing None = refl
Moves-nothing (Some left) = (left, refl, refl)

-- two calls moved what each of them moved
pub Moves-then : (before between after : Option (List ℕ)) (first second : List ℕ) → Moves before between first → Moves between after second → Moves before after (first ++ second)
Moves-then None between after first second p q = subst (λ b. Moves b after second) p q
Moves-then (Some left) between after first second p q =
    let r : Moves (Some p.0) after second = subst (λ b. Moves b after second) p.1 q in
    (r.0, r.1, p.2 ∙ ap (λ t. first ++ t) r.2 ∙ sym (append_assoc first second r.0))

-- a call that took nothing
pub Grows-nothing : (before : Option (List ℕ)) → Grows before before []
Grows-nothing None = refl
Grows-nothing (Some had) = ap Some (sym (append-nil had))

-- two calls took what each of them took
pub Grows-then : (before between after : Option (List ℕ)) (first second : List ℕ) → Grows before between first → Grows between after second → Grows before after (first ++ second)
Grows-then None between after first second p q = subst (λ b. Grows b after second) p q
Grows-then (Some had) between after first second p q =
    let r : Grows (Some (had ++ first)) after second = subst (λ b. Grows b after second) p q in
    r ∙ ap Some (append_assoc had first second)

-- what stands at the front of a buffer after a part of it, from a place on, was written over
pub take-written : (at room n : ℕ) (buf written : List ℕ) → at ≤ length buf → n ≤ length written → take (at + n) (put_mid at room buf written) ≡ take at buf ++ take n written
take-written at room n buf written within fits = same_lists _ _ (search (rules, places)) (λ k d h. grind (arith, places))

-- the bytes up to a place, and those that follow it
pub take-further : (at n : ℕ) (bytes : List ℕ) → at ≤ length bytes → n ≤ length (take (length bytes - at) (drop at bytes))
    → take (at + n) bytes ≡ take at bytes ++ take n (take (length bytes - at) (drop at bytes))
take-further at n bytes within fits = same_lists _ _ (search (rules, places)) (λ k d h. grind (arith, places))

-- a failure after some bytes were taken
pub GrowsByFront-at : (before between after : Option (List ℕ)) (bytes : List ℕ) (at : ℕ) → Grows before between (take at bytes) → after ≡ between → GrowsByFront before after bytes
GrowsByFront-at before between after bytes at grown same =
    (take at bytes, (drop at bytes, sym (take-append-drop at bytes)), subst (λ b. Grows before b (take at bytes)) (sym same) grown)

-- a source that tells what is left goes on telling it, less the bytes that moved
pub Moves-told : (before after : Option (List ℕ)) (moved left : List ℕ) → before ≡ Some left → Moves before after moved → (rest : List ℕ) × (after ≡ Some rest) × (left ≡ moved ++ rest)
Moves-told before after moved left told moves =
    let moves_told : Moves (Some left) after moved = subst (λ b. Moves b after moved) told moves in
    moves_told

-- a sink that tells what it took goes on telling it, with the bytes that were added
pub Grows-told : (before after : Option (List ℕ)) (added had : List ℕ) → before ≡ Some had → Grows before after added → after ≡ Some (had ++ added)
Grows-told before after added had told grows =
    let grows_told : Grows (Some had) after added = subst (λ b. Grows b after added) told grows in
    grows_told

-- a buffer that was filled as far as the source went: it holds the front of what was left, as much as it has room for
pub filled-front : (n : ℕ) (buf text rest : List ℕ) → n ≤ length buf → text ≡ take n buf ++ rest → (n < length buf → rest ≡ []) → take n buf ≡ take (length buf) text
filled-front n buf text rest within whole ended =
    elim (cases_eq n (length buf)) [
      | inl same ↦ sym (ap (λ t. take (length buf) t) whole ∙ take_at (take n buf) rest (length buf) (grind (arith, places)))
      | inr other ↦
          let none : rest ≡ [] = ended (omega arith) in
          let all : text ≡ take n buf = whole ∙ ap (λ t. take n buf ++ t) none ∙ append-nil (take n buf) in
          sym (ap (λ t. take (length buf) t) all ∙ take_all (length buf) (take n buf) (grind (arith, places)))
    ]

-- a count that rose did not fall
pub Rose-le : (before after : ℕ) → Rose before after → before ≤ after
Rose-le before after rose = grind arith

-- a count that rose and then did not fall, and stayed within its bound, rose
pub Rose-then : (before between after : ℕ) → Rose before between → between ≤ after → after ≤ greatest → Rose before after
Rose-then before between after rose onward within = grind arith
