-- Numerals of a fixed number of digits, without the zeros at their front.
use Rattle.std.proofs.Common.{◌≡◌, ℕ, suc, if◌then◌else◌, ◌==◌, ◌+◌, ◌/◌, ◌%◌, ◌<◌, ◌≤◌, Bool, true, false, List, [], ◌∷◌, ◌++◌, drop, decimal, refl, sym, ◌∙◌, ap, arith}
use Rattle.std.specs.Fmt.{digits, digits_onto, digit_glyph}
use Rattle.std.proofs.lemmas.Bool.{eq-eqb, ne_eqb}
use Rattle.std.proofs.lemmas.Fmt.{decimal_digit, decimal_step, hex_one_digit, hex_two_digits}

decimal_one : (n : ℕ) → n < 10 → decimal n ≡ (48 + n % 10) ∷ []
decimal_one n small = decimal_digit n small ∙ ap (λ d. (48 + d) ∷ []) (omega arith)

decimal_two : (n : ℕ) → 10 ≤ n → n < 100 → decimal n ≡ (48 + n / 10 % 10) ∷ (48 + n % 10) ∷ []
decimal_two n large small = decimal_step n large (omega arith) ∙ ap (λ ds. ds ++ (48 + n % 10) ∷ []) (decimal_one (n / 10) (omega arith))

decimal_three : (n : ℕ) → 100 ≤ n → n < 1000 → decimal n ≡ (48 + n / 100) ∷ (48 + n / 10 % 10) ∷ (48 + n % 10) ∷ []
decimal_three n large small =
    let high : n / 10 / 10 % 10 ≡ n / 100 = omega arith in
    decimal_step n (omega arith) (omega arith) ∙ ap (λ ds. ds ++ (48 + n % 10) ∷ []) (decimal_two (n / 10) (omega arith) (omega arith)) ∙ ap (λ d. (48 + d) ∷ (48 + n / 10 % 10) ∷ (48 + n % 10) ∷ []) high

-- the three digits of a number below 1000
abbrev pub three_digits : ℕ → List ℕ
three_digits n = (48 + n / 100) ∷ (48 + n / 10 % 10) ∷ (48 + n % 10) ∷ []

pub below_ten : (n front : ℕ) → n < 10 → front ≡ 2 → drop front (three_digits n) ≡ decimal n
below_ten n front small is = ap (λ z. drop z (three_digits n)) is ∙ sym (decimal_one n small)

pub below_hundred : (n front : ℕ) → 10 ≤ n → n < 100 → front ≡ 1 → drop front (three_digits n) ≡ decimal n
below_hundred n front large small is = ap (λ z. drop z (three_digits n)) is ∙ sym (decimal_two n large small)

pub below_thousand : (n front : ℕ) → 100 ≤ n → n < 1000 → front ≡ 0 → drop front (three_digits n) ≡ decimal n
below_thousand n front large small is = ap (λ z. drop z (three_digits n)) is ∙ sym (decimal_three n large small)

onto_nil : (n : ℕ) → digits_onto 64 16 false n [] ≡ digits 16 false n
unfolding digits
onto_nil n = refl

onto_by : (k n : ℕ) (acc : List ℕ) (test : Bool) → (n / 16 == 0) ≡ test
    → digits_onto (suc k) 16 false n acc ≡ if test then digit_glyph false (n % 16) ∷ acc else digits_onto k 16 false (n / 16) (digit_glyph false (n % 16) ∷ acc)
onto_by k n acc test e = ap (λ (b : Bool). if b then digit_glyph false (n % 16) ∷ acc else digits_onto k 16 false (n / 16) (digit_glyph false (n % 16) ∷ acc)) e

onto_last : (i k n : ℕ) (acc : List ℕ) → i ≡ suc k → n / 16 ≡ 0 → digits_onto i 16 false n acc ≡ digit_glyph false (n % 16) ∷ acc
onto_last i k n acc is h = ap (λ j. digits_onto j 16 false n acc) is ∙ onto_by k n acc true (eq-eqb (n / 16) 0 h)

onto_more : (i k n : ℕ) (acc : List ℕ) → i ≡ suc k → (n / 16 ≡ 0 → ⊥) → digits_onto i 16 false n acc ≡ digits_onto k 16 false (n / 16) (digit_glyph false (n % 16) ∷ acc)
onto_more i k n acc is h = ap (λ j. digits_onto j 16 false n acc) is ∙ onto_by k n acc false (ne_eqb (n / 16) 0 h)

-- the four hexadecimal digits of a number below 65536
abbrev pub four_digits : ℕ → List ℕ
four_digits n = digit_glyph false (n / 0x1000) ∷ digit_glyph false (n / 0x100 % 16) ∷ digit_glyph false (n / 0x10 % 16) ∷ digit_glyph false (n % 16) ∷ []

hex_one : (n : ℕ) → n < 0x10 → digits 16 false n ≡ digit_glyph false (n % 16) ∷ []
hex_one n small = let same : n ≡ n % 16 = omega arith in hex_one_digit false n small ∙ ap (λ d. digit_glyph false d ∷ []) same

hex_two : (n : ℕ) → 0x10 ≤ n → n < 0x100 → digits 16 false n ≡ digit_glyph false (n / 0x10 % 16) ∷ digit_glyph false (n % 16) ∷ []
hex_two n large small = let same : n / 16 ≡ n / 0x10 % 16 = omega arith in hex_two_digits false n large small ∙ ap (λ d. digit_glyph false d ∷ digit_glyph false (n % 16) ∷ []) same

hex_three : (n : ℕ) → 0x100 ≤ n → n < 0x1000 → digits 16 false n ≡ digit_glyph false (n / 0x100 % 16) ∷ digit_glyph false (n / 0x10 % 16) ∷ digit_glyph false (n % 16) ∷ []
hex_three n large small =
    let low : List ℕ = digit_glyph false (n % 16) ∷ [] in
    let middle : List ℕ = digit_glyph false (n / 16 % 16) ∷ low in
    let same : n / 16 / 16 % 16 ≡ n / 0x100 % 16 = omega arith in
    sym (onto_nil n) ∙ onto_more 64 63 n [] refl (omega arith)
    ∙ onto_more 63 62 (n / 16) low refl (omega arith) ∙ onto_last 62 61 (n / 16 / 16) middle refl (omega arith)
    ∙ ap (λ d. digit_glyph false d ∷ middle) same

hex_four : (n : ℕ) → 0x1000 ≤ n → n < 0x10000 → digits 16 false n ≡ four_digits n
hex_four n large small =
    let low : List ℕ = digit_glyph false (n % 16) ∷ [] in
    let middle : List ℕ = digit_glyph false (n / 16 % 16) ∷ low in
    let high : List ℕ = digit_glyph false (n / 16 / 16 % 16) ∷ middle in
    let same : n / 16 / 16 % 16 ≡ n / 0x100 % 16 = omega arith in
    let first : n / 16 / 16 / 16 % 16 ≡ n / 0x1000 = omega arith in
    sym (onto_nil n) ∙ onto_more 64 63 n [] refl (omega arith)
    ∙ onto_more 63 62 (n / 16) low refl (omega arith) ∙ onto_more 62 61 (n / 16 / 16) middle refl (omega arith)
    ∙ onto_last 61 60 (n / 16 / 16 / 16) high refl (omega arith)
    ∙ (λ i. digit_glyph false (first i) ∷ digit_glyph false (same i) ∷ middle)

pub below_0x10 : (n front : ℕ) → n < 0x10 → front ≡ 3 → drop front (four_digits n) ≡ digits 16 false n
below_0x10 n front small is = ap (λ z. drop z (four_digits n)) is ∙ sym (hex_one n small)

pub below_0x100 : (n front : ℕ) → 0x10 ≤ n → n < 0x100 → front ≡ 2 → drop front (four_digits n) ≡ digits 16 false n
below_0x100 n front large small is = ap (λ z. drop z (four_digits n)) is ∙ sym (hex_two n large small)

pub below_0x1000 : (n front : ℕ) → 0x100 ≤ n → n < 0x1000 → front ≡ 1 → drop front (four_digits n) ≡ digits 16 false n
below_0x1000 n front large small is = ap (λ z. drop z (four_digits n)) is ∙ sym (hex_three n large small)

pub below_0x10000 : (n front : ℕ) → 0x1000 ≤ n → n < 0x10000 → front ≡ 0 → drop front (four_digits n) ≡ digits 16 false n
below_0x10000 n front large small is = ap (λ z. drop z (four_digits n)) is ∙ sym (hex_four n large small)
