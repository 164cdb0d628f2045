-- A field that is read is the field that was written, and what was written is read again.
use Rattle.std.proofs.Common.{◌≡◌, ℕ, zero, suc, ◌+◌, ◌^◌, ◌<◌, ◌≤◌, ◌⊎◌, Bool, true, false, cond, ltb, eqb, List, [], ◌∷◌, ◌++◌, length, get_or, take, drop, Result, Ok, Err, refl, sym, ap, subst, ◌∙◌, append_assoc, arith, inl, inr}
use Rattle.std.specs.List.{AllByRecursion}
use Rattle.std.proofs.lemmas.Bool.{cases_lt, ltb-false, le-ltb, eqb-true, eq-eqb, ne_eqb}
use Rattle.std.proofs.lemmas.List.{take_at, drop_at, take-append-drop, length-append, length-take, get_or-drop, get_or-take, get_or_past}
use Rattle.std.proofs.lemmas.List.Concat.{flat_map-cons}
use Rattle.std.proofs.lemmas.Nat.{le_bytes_4}
use Rattle.byteorder.specs.Endian.{little_number, little_from}
use Rattle.byteorder.specs.Numbers.{little_from-take, little_from-lt, little_number-reads_back}
use Rattle.nsc_model.specs.Wire.{field}
use Rattle.nsc_wire.specs.Fields.{fields}
use Rattle.nsc_wire.specs.Replies.{◌>>=◌, piece_at, number_at, numbers_at, fixed_at, all_fixed, size_at}

abbrev pub IsBytes : List ℕ → Type 0
IsBytes bytes = (i : ℕ) → get_or bytes i 0 < 256

pub IsBytes-drop : (n : ℕ) (bytes : List ℕ) → IsBytes bytes → IsBytes (drop n bytes)
IsBytes-drop n bytes h i = rw get_or-drop (h (n + i))

pub IsBytes-take : (n : ℕ) (bytes : List ℕ) → IsBytes bytes → IsBytes (take n bytes)
IsBytes-take n bytes h i =
    elim (cases_lt i n) [
      | inl lt ↦ rw (get_or-take n bytes i 0 lt) (h i)
      | inr le ↦ rw (get_or_past (take n bytes) i 0 (omega (arith, length-take n bytes))) (omega arith)
    ]

-- the value of a step that did not fail
pub bind_ok : {A B : Type 0} (r : Result A ℕ) (f : A → Result B ℕ) (y : B) → (r >>= f) ≡ Ok y → (x : A) × (r ≡ Ok x) × (f x ≡ Ok y)
bind_ok (Ok x) f y e = (x, refl, e)
bind_ok (Err left) f y e = absurd cc

-- a step that did not fail, and what comes after it
pub bind_is : {A B : Type 0} (r : Result A ℕ) (f : A → Result B ℕ) (x : A) (y : Result B ℕ) → r ≡ Ok x → f x ≡ y → (r >>= f) ≡ y
bind_is r f x y e h = rw e h

-- a test that did not fail
pub guard_not : {A : Type 0} (b : Bool) (left : ℕ) (x : Result A ℕ) (y : A) → cond b (Err left) x ≡ Ok y → (b ≡ false) × (x ≡ Ok y)
guard_not true left x y e = absurd cc
guard_not false left x y e = (refl, e)

pub guard_is : {A : Type 0} (b : Bool) (left : ℕ) (x : Result A ℕ) (y : A) → cond b x (Err left) ≡ Ok y → (b ≡ true) × (x ≡ Ok y)
guard_is true left x y e = (refl, e)
guard_is false left x y e = absurd cc

-- which way a test went
pub chosen : {A : Type 0} (b : Bool) (x y z : A) → cond b x y ≡ z → ((b ≡ true) × (x ≡ z)) ⊎ ((b ≡ false) × (y ≡ z))
chosen true x y z e = inl (refl, e)
chosen false x y z e = inr (refl, e)

abbrev done : {A : Type 0} → A → Result A ℕ
done x = Ok x

pub ok_is : {A : Type 0} (x y : A) → done x ≡ done y → x ≡ y
ok_is x y e = cc

-- what a reader took from the front
pub record Takes (bytes piece rest : List ℕ) : Type 0 where
  pub parts : bytes ≡ piece ++ rest
  pub rest_fits : IsBytes rest

pub Takes-then : (a x b y c : List ℕ) → Takes a x b → Takes b y c → Takes a (x ++ y) c
Takes-then a x b y c p q = record { parts = p.parts ∙ ap (λ (t : List ℕ). x ++ t) q.parts ∙ sym (append_assoc x y c); rest_fits = q.rest_fits }

-- ---- fields

-- the bytes of a number are four, and the number stands in them
field_length : (n : ℕ) → length (field n) ≡ 4
field_length n = refl

field_back : (bytes : List ℕ) → IsBytes bytes → 4 ≤ length bytes → field (little_number 4 bytes) ≡ take 4 bytes
field_back bytes fits long =
    let four : length (take 4 bytes) ≡ 4 = omega (arith, length-take 4 bytes) in
    let same : little_from 0 4 (take 4 bytes) ≡ little_from 0 4 bytes = little_from-take 0 4 4 bytes (omega arith) in
    le_bytes_4 (take 4 bytes) (little_number 4 bytes) four (IsBytes-take 4 bytes fits) (sym same ∙ omega arith)

pub piece_takes : (size : ℕ) (bytes : List ℕ) (x : List ℕ × List ℕ) → IsBytes bytes → piece_at size bytes ≡ Ok x → Takes bytes x.0 x.1 × (length x.0 ≡ size)
unfolding piece_at
piece_takes size bytes x fits e =
    let g = guard_not (ltb (length bytes) size) 0 (Ok (take size bytes, drop size bytes)) x e in
    let long : size ≤ length bytes = ltb-false _ _ g.0 in
    let len : length (take size bytes) ≡ size = omega (arith, length-take size bytes) in
    subst (λ (y : List ℕ × List ℕ). Takes bytes y.0 y.1 × (length y.0 ≡ size)) (ok_is (take size bytes, drop size bytes) x g.1)
    (record { parts = sym (take-append-drop size bytes); rest_fits = IsBytes-drop size bytes fits }, len)

pub piece_again : (piece rest : List ℕ) → piece_at (length piece) (piece ++ rest) ≡ Ok (piece, rest)
unfolding piece_at
piece_again piece rest =
    let long : ltb (length (piece ++ rest)) (length piece) ≡ false = le-ltb _ _ (omega (arith, length-append piece rest)) in
    rw (long, take_at piece rest (length piece) refl, drop_at piece rest (length piece) refl) refl

pub number_takes : (bytes : List ℕ) (x : ℕ × List ℕ) → IsBytes bytes → number_at bytes ≡ Ok x → Takes bytes (field x.0) x.1 × (x.0 < 2 ^ 32)
unfolding number_at
number_takes bytes x fits e =
    let g = guard_not (ltb (length bytes) 4) 0 (Ok (little_number 4 bytes, drop 4 bytes)) x e in
    let long : 4 ≤ length bytes = ltb-false _ _ g.0 in
    let front : field (little_number 4 bytes) ≡ take 4 bytes = field_back bytes fits long in
    let whole : bytes ≡ field (little_number 4 bytes) ++ drop 4 bytes = sym (take-append-drop 4 bytes) ∙ ap (λ (p : List ℕ). p ++ drop 4 bytes) (sym front) in
    subst (λ (y : ℕ × List ℕ). Takes bytes (field y.0) y.1 × (y.0 < 2 ^ 32)) (ok_is (little_number 4 bytes, drop 4 bytes) x g.1)
    (record { parts = whole; rest_fits = IsBytes-drop 4 bytes fits }, little_from-lt 0 4 bytes fits)

pub number_again : (n : ℕ) (rest : List ℕ) → n < 2 ^ 32 → number_at (field n ++ rest) ≡ Ok (n, rest)
unfolding number_at
number_again n rest lt =
    let long : ltb (length (field n ++ rest)) 4 ≡ false = le-ltb _ _ (omega arith) in
    rw (long, little_number-reads_back 4 n rest lt) refl

pub fixed_takes : (value : ℕ) (bytes rest : List ℕ) → IsBytes bytes → fixed_at value bytes ≡ Ok rest → Takes bytes (field value) rest
unfolding fixed_at
fixed_takes value bytes rest fits e =
    let a = bind_ok (number_at bytes) (λ n. cond (eqb n.0 value) (Ok n.1) (Err (length bytes))) rest e in
    let g = guard_is (eqb a.0.0 value) (length bytes) (Ok a.0.1) rest a.2 in
    let is : a.0.0 ≡ value = eqb-true _ _ g.0 in
    let t : Takes bytes (field a.0.0) a.0.1 = (number_takes bytes a.0 fits a.1).0 in
    subst (λ (r : List ℕ). Takes bytes (field value) r) (ok_is a.0.1 rest g.1) (subst (λ (n : ℕ). Takes bytes (field n) a.0.1) is t)

pub fixed_again : (value : ℕ) (rest : List ℕ) → value < 2 ^ 32 → fixed_at value (field value ++ rest) ≡ Ok rest
unfolding fixed_at
fixed_again value rest lt =
    let same : eqb value value ≡ true = eq-eqb value value refl in
    bind_is (number_at (field value ++ rest)) _ (value, rest) (Ok rest) (number_again value rest lt) (rw same refl)

pub all_fixed_takes : (values bytes rest : List ℕ) → IsBytes bytes → all_fixed values bytes ≡ Ok rest → Takes bytes (fields values) rest
unfolding all_fixed
all_fixed_takes [] bytes rest fits e = subst (λ (r : List ℕ). Takes bytes [] r) (ok_is bytes rest e) (record { parts = refl; rest_fits = fits })
all_fixed_takes (value ∷ values) bytes rest fits e =
    let a = bind_ok (fixed_at value bytes) (all_fixed values) rest e in
    let first = fixed_takes value bytes a.0 fits a.1 in
    let others = all_fixed_takes values a.0 rest first.rest_fits a.2 in
    rw flat_map-cons (Takes-then bytes (field value) a.0 (fields values) rest first others)

pub all_fixed_again : (values rest : List ℕ) → AllByRecursion (λ n. n < 2 ^ 32) values → all_fixed values (fields values ++ rest) ≡ Ok rest
unfolding all_fixed
all_fixed_again [] rest fits = refl
all_fixed_again (value ∷ values) rest fits =
    let regrouped : fields (value ∷ values) ++ rest ≡ field value ++ (fields values ++ rest) = ap (λ (x : List ℕ). x ++ rest) (flat_map-cons field value values) ∙ append_assoc (field value) (fields values) rest in
    ap (all_fixed (value ∷ values)) regrouped ∙ bind_is (fixed_at value (field value ++ (fields values ++ rest))) (all_fixed values) (fields values ++ rest) (Ok rest) (fixed_again value (fields values ++ rest) fits.0) (all_fixed_again values rest fits.1)

pub size_takes : (bytes : List ℕ) (x : ℕ × List ℕ) → IsBytes bytes → size_at bytes ≡ Ok x → Takes bytes (field x.0) x.1
unfolding size_at
size_takes bytes x fits e =
    let a = bind_ok (number_at bytes) (λ n. cond (eqb n.0 0) (Err (length bytes)) (Ok n)) x e in
    let g = guard_not (eqb a.0.0 0) (length bytes) (Ok a.0) x a.2 in
    subst (λ (y : ℕ × List ℕ). Takes bytes (field y.0) y.1) (ok_is a.0 x g.1) (number_takes bytes a.0 fits a.1).0

pub size_again : (n : ℕ) (rest : List ℕ) → n + 1 < 2 ^ 32 → size_at (field (n + 1) ++ rest) ≡ Ok (n + 1, rest)
unfolding size_at
size_again n rest lt =
    let filled : eqb (n + 1) 0 ≡ false = ne_eqb (n + 1) 0 (λ (is : n + 1 ≡ 0). omega (arith, is)) in
    bind_is (number_at (field (n + 1) ++ rest)) _ (n + 1, rest) (Ok (n + 1, rest)) (number_again (n + 1) rest lt) (rw filled refl)

-- ---- lists of fields

pub numbers_take : (count : ℕ) (bytes : List ℕ) (x : List ℕ × List ℕ) → IsBytes bytes → numbers_at count bytes ≡ Ok x → Takes bytes (fields x.0) x.1 × (length x.0 ≡ count) × AllByRecursion (λ n. n < 2 ^ 32) x.0
unfolding numbers_at
numbers_take zero bytes x fits e =
    subst (λ (y : List ℕ × List ℕ). Takes bytes (fields y.0) y.1 × (length y.0 ≡ 0) × AllByRecursion (λ n. n < 2 ^ 32) y.0) (ok_is ([], bytes) x e) (record { parts = refl; rest_fits = fits }, refl, tt)
numbers_take (suc count) bytes x fits e =
    let a = bind_ok (number_at bytes) (λ first. numbers_at count first.1 >>= λ others. Ok (first.0 ∷ others.0, others.1)) x e in
    let b = bind_ok (numbers_at count a.0.1) (λ others. Ok (a.0.0 ∷ others.0, others.1)) x a.2 in
    let first = number_takes bytes a.0 fits a.1 in
    let others = numbers_take count a.0.1 b.0 first.0.rest_fits b.1 in
    let both = Takes-then bytes (field a.0.0) a.0.1 (fields b.0.0) b.0.1 first.0 others.0 in
    subst (λ (y : List ℕ × List ℕ). Takes bytes (fields y.0) y.1 × (length y.0 ≡ suc count) × AllByRecursion (λ n. n < 2 ^ 32) y.0) (ok_is (a.0.0 ∷ b.0.0, b.0.1) x b.2) (rw flat_map-cons both, ap suc others.1, (first.1, others.2))

pub numbers_again : (ns rest : List ℕ) → AllByRecursion (λ n. n < 2 ^ 32) ns → numbers_at (length ns) (fields ns ++ rest) ≡ Ok (ns, rest)
unfolding numbers_at
numbers_again [] rest fits = refl
numbers_again (n ∷ ns) rest fits =
    let regrouped : fields (n ∷ ns) ++ rest ≡ field n ++ (fields ns ++ rest) = ap (λ (x : List ℕ). x ++ rest) (flat_map-cons field n ns) ∙ append_assoc (field n) (fields ns) rest in
    ap (numbers_at (suc (length ns))) regrouped ∙ rw (number_again n (fields ns ++ rest) fits.0, numbers_again ns rest fits.1) refl
