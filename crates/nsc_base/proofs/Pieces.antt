-- How a text falls into pieces, lines and words, piece by piece.
use Rattle.std.proofs.Common.{◌≡◌, ℕ, suc, if◌then◌else◌, ◌<◌, Bool, true, false, ◌||◌, ◌==◌, List, [], ◌∷◌, ◌++◌, length, get_or, refl, ap, arith}
use Rattle.std.specs.List.{list_any}
use Rattle.nsc_base.specs.Text.{pieces, lines_of, onto_first}

pub or_false : (a b : Bool) → (a || b) ≡ false → (a ≡ false) × (b ≡ false)
or_false true b h = cc
or_false false b h = (refl, h)

-- a test that fails at each index holds of no byte
pub none_cuts : (cuts : ℕ → Bool) (xs : List ℕ) → ((k : ℕ) → k < length xs → cuts (get_or xs k 0) ≡ false) → list_any cuts xs ≡ false
none_cuts cuts [] h = refl
none_cuts cuts (x ∷ xs) h =
    let first : cuts x ≡ false = h 0 (omega arith) in
    let later : list_any cuts xs ≡ false = none_cuts cuts xs (λ k l. h (suc k) (omega arith)) in
    rw (first, later) refl

-- there is a first piece
pub pieces-some : (cuts : ℕ → Bool) (bytes : List ℕ) → (first : List ℕ) × ((later : List (List ℕ)) × (pieces cuts bytes ≡ first ∷ later))
pieces-some cuts [] = ([], ([], refl))
pieces-some cuts (b ∷ bytes) =
    let later = pieces-some cuts bytes in
    elim (cuts b) as (λ v. (first : List ℕ) × ((rest : List (List ℕ)) × ((if v then [] ∷ pieces cuts bytes else onto_first b (pieces cuts bytes)) ≡ first ∷ rest))) [
      | true ↦ ([], (pieces cuts bytes, refl))
      | false ↦ (b ∷ later.0, (later.1.0, ap (onto_first b) later.1.1))
    ]

-- where no byte cuts there is one piece
pub pieces-last : (cuts : ℕ → Bool) (xs : List ℕ) → list_any cuts xs ≡ false → pieces cuts xs ≡ xs ∷ []
pieces-last cuts [] h = refl
pieces-last cuts (x ∷ xs) h =
    let parts = or_false (cuts x) (list_any cuts xs) h in
    rw (parts.0, pieces-last cuts xs parts.1) refl

-- the first byte that cuts ends the first piece
pub pieces-first : (cuts : ℕ → Bool) (xs : List ℕ) (c : ℕ) (ys : List ℕ) → list_any cuts xs ≡ false → cuts c ≡ true → pieces cuts (xs ++ c ∷ ys) ≡ xs ∷ pieces cuts ys
pieces-first cuts [] c ys h ends = rw ends refl
pieces-first cuts (x ∷ xs) c ys h ends =
    let parts = or_false (cuts x) (list_any cuts xs) h in
    rw (parts.0, pieces-first cuts xs c ys parts.1 ends) refl

-- a text with a byte and no newline is one line
pub lines-last : (x : ℕ) (xs : List ℕ) → list_any (λ b. b == 10) (x ∷ xs) ≡ false → lines_of (x ∷ xs) ≡ (x ∷ xs) ∷ []
lines-last x [] h =
    let parts = or_false (x == 10) false h in
    rw parts.0 refl
lines-last x (y ∷ ys) h =
    let parts = or_false (x == 10) (list_any (λ b. b == 10) (y ∷ ys)) h in
    let later = lines-last y ys parts.1 in
    rw parts.0 (ap (onto_first x) later)

-- the first newline ends the first line
pub lines-first : (xs ys : List ℕ) → list_any (λ b. b == 10) xs ≡ false → lines_of (xs ++ 10 ∷ ys) ≡ xs ∷ lines_of ys
lines-first [] ys h = refl
lines-first (x ∷ xs) ys h =
    let parts = or_false (x == 10) (list_any (λ b. b == 10) xs) h in
    rw (parts.0, lines-first xs ys parts.1) refl
