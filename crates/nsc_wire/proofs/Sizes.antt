-- How many bytes the parts of a reply take that stand once for each element of a list.
use Rattle.std.proofs.Common.{◌≡◌, ℕ, ◌+◌, ◌*◌, ◌<◌, ◌≤◌, zero, suc, List, [], ◌∷◌, length, get_or, take, sym, subst, arith, length-append}
use Rattle.std.specs.List.{flat_map}
use Rattle.nsc_model.specs.declared.row.Found6.{Found6}
use Rattle.nsc_model.specs.Wire.{field, text, text_len}

-- the parts before a place and the part at it are no more than all
part_within : {X A : Type 0} (f : X → List A) (xs : List X) (i : ℕ) (d : X) → i < length xs → length (flat_map f (take i xs)) + length (f (get_or xs i d)) ≤ length (flat_map f xs)
part_within f [] i d h = absurd (omega arith)
part_within f (x ∷ xs) zero d h = omega (arith, length-append (f x) (flat_map f xs))
part_within f (x ∷ xs) (suc i) d h = omega (arith, length-append (f x) (flat_map f (take i xs)), length-append (f x) (flat_map f xs), part_within f xs i d (omega arith))

-- a text at a place has room within all of them
pub text_within : (texts : List (List ℕ)) (i : ℕ) → i < length texts → length (get_or texts i []) + 1 ≤ length (flat_map text texts)
text_within texts i h = omega (arith, part_within text texts i [] h, length-append (get_or texts i []) (0 ∷ []))

-- each text takes a byte at least
pub count_within : (texts : List (List ℕ)) → length texts ≤ length (flat_map text texts)
count_within [] = omega arith
count_within (one ∷ texts) = omega (arith, length-append (text one) (flat_map text texts), length-append one (0 ∷ []), count_within texts)

pub length-fields : (numbers : List ℕ) → length (flat_map field numbers) ≡ 4 * length numbers
length-fields [] = omega arith
length-fields (x ∷ xs) = omega (arith, length-append (field x) (flat_map field xs), length-fields xs)

pub length-lengths : (texts : List (List ℕ)) → length (flat_map text_len texts) ≡ 4 * length texts
length-lengths [] = omega arith
length-lengths (x ∷ xs) = omega (arith, length-append (text_len x) (flat_map text_len xs), length-lengths xs)

-- an address at a place has room within all of them
pub address_within : (list : List Found6) (i : ℕ) (one : Found6) → i < length list → one ≡ get_or list i one → length (flat_map (λ (f : Found6). f.address) (take i list)) + length one.address ≤ length (flat_map (λ (f : Found6). f.address) list)
address_within list i one h is =
    subst (λ (f : Found6). length (flat_map (λ (f : Found6). f.address) (take i list)) + length f.address ≤ length (flat_map (λ (f : Found6). f.address) list)) (sym is) (part_within (λ (f : Found6). f.address) list i one h)
