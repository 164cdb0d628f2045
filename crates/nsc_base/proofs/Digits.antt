-- The number that digits spell, digit by digit.
use Rattle.std.proofs.Common.{◌≡◌, ℕ, zero, suc, ◌+◌, ◌-◌, ◌*◌, ◌^◌, ◌<◌, ◌≤◌, Bool, true, false, ◌&&◌, ◌==◌, nat_lt, List, [], ◌∷◌, ◌++◌, length, take, drop, get_or, Some, None, refl, sym, ◌∙◌, ap, arith, length-append}
use Rattle.std.specs.List.{list_all}
use Rattle.std.specs.Char.{is_ascii_digit}
use Rattle.std.proofs.lemmas.List.{take_all, take_more, take-append-drop}
use Rattle.std.proofs.lemmas.List.Folds.{list_all_at}
use Rattle.std.proofs.lemmas.Bool.Decides.{nat_tests}
use Rattle.std.proofs.lemmas.Nat.{pow-add}
use Rattle.nsc_base.proofs.Compare.{not_below, is_below}
use Rattle.nsc_base.specs.Decimal.{value_of, decimal_of}

ten_times : (d n m v w : ℕ) → d * (n * m) + (v * m + w) ≡ (d * n + v) * m + w
ten_times d n m v w = omega arith

-- the number that the front spells, moved up by the digits after it
pub value-append : (xs ys : List ℕ) → value_of (xs ++ ys) ≡ value_of xs * 10 ^ length ys + value_of ys
value-append [] ys = omega arith
value-append (x ∷ xs) ys =
    let places : 10 ^ length (xs ++ ys) ≡ 10 ^ length xs * 10 ^ length ys = rw length-append (pow-add 10 (length xs) (length ys)) in
    rw (value-append xs ys, places) (ten_times (x - 48) (10 ^ length xs) (10 ^ length ys) (value_of xs) (value_of ys))

-- one digit more
pub value-more : (text : List ℕ) (i : ℕ) → i < length text → value_of (take (i + 1) text) ≡ value_of (take i text) * 10 + (get_or text i 0 - 48)
value-more text i l =
    ap value_of (take_more text i 0 l) ∙ value-append (take i text) (get_or text i 0 ∷ []) ∙ (omega arith)

some_power : (n : ℕ) → 1 ≤ 10 ^ n
some_power zero = omega arith
some_power (suc n) = omega (arith, some_power n)

more_times : (v p w : ℕ) → 1 ≤ p → v ≤ v * p + w
more_times v p w l = grind arith

-- the front spells no larger number
pub value-take : (text : List ℕ) (i : ℕ) → value_of (take i text) ≤ value_of text
value-take text i =
    let whole : value_of text ≡ value_of (take i text) * 10 ^ length (drop i text) + value_of (drop i text) =
    ap value_of (sym (take-append-drop i text)) ∙ value-append (take i text) (drop i text) in
    rw whole (more_times (value_of (take i text)) (10 ^ length (drop i text)) (value_of (drop i text)) (some_power (length (drop i text))))

pub decimal-empty : (text : List ℕ) → length text ≡ 0 → decimal_of text ≡ None
decimal-empty [] l = refl
decimal-empty (x ∷ xs) l = absurd (omega arith)

pub decimal-other : (text : List ℕ) (i : ℕ) → i < length text → is_ascii_digit (get_or text i 0) ≡ false → decimal_of text ≡ None
decimal-other [] i l other = refl
decimal-other (x ∷ xs) i l other =
    let all : list_all is_ascii_digit (x ∷ xs) ≡ false = list_all_at is_ascii_digit (x ∷ xs) i 0 l other in
    rw all refl

and_false : (b : Bool) → (b && false) ≡ false
and_false true = refl
and_false false = refl

pub decimal-large : (text : List ℕ) (i : ℕ) → 2 ^ 32 ≤ value_of (take i text) → decimal_of text ≡ None
decimal-large text i large =
    let bound = value-take text i in
    let above : nat_lt (value_of text) (2 ^ 32) ≡ false = not_below (value_of text) (2 ^ 32) (omega arith) in
    rw (above, and_false) refl

pub decimal-whole : (text : List ℕ) → 0 < length text → list_all is_ascii_digit text ≡ true → value_of text < 2 ^ 32 → decimal_of text ≡ Some (value_of text)
decimal-whole [] filled all small = absurd (omega arith)
decimal-whole (x ∷ xs) filled all small =
    let below : nat_lt (value_of (x ∷ xs)) (2 ^ 32) ≡ true = is_below (value_of (x ∷ xs)) (2 ^ 32) small in
    rw (all, below) refl

-- where the number of the front is too large already, with the next digit or before it
pub decimal-past : (text : List ℕ) (i v : ℕ) → i < length text → v ≡ value_of (take i text) → 2 ^ 32 ≤ v * 10 + (get_or text i 0 - 48) → decimal_of text ≡ None
decimal-past text i v l is large =
    let more = value-more text i l in
    let past : 2 ^ 32 ≤ value_of (take (i + 1) text) = rw (more, ← is) large in
    decimal-large text (i + 1) past

pub decimal-done : (text : List ℕ) (i v : ℕ) → (length text == 0) ≡ false → length text ≤ i → v < 2 ^ 32 → v ≡ value_of (take i text) → list_all is_ascii_digit (take i text) ≡ true → Some v ≡ decimal_of text
decimal-done text i v filled l small is digits =
    let all : take i text ≡ text = take_all i text l in
    let value : v ≡ value_of text = is ∙ ap value_of all in
    let bound : value_of text < 2 ^ 32 = rw (← value) small in
    let only : list_all is_ascii_digit text ≡ true = rw all at digits in
    let some : 0 < length text = grind (arith, nat_tests) in
    ap Some value ∙ sym (decimal-whole text some only bound)
