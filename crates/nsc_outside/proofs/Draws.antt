-- A read that draws its number keeps the rule of numbers.
use Rattle.std.proofs.Common.{◌≡◌, ◌≢◌, ℕ, zero, suc, ◌+◌, ◌%◌, ◌^◌, ◌<◌, ◌≤◌, ◌==◌, inl, inr, Bool, cond, List, [], ◌∷◌, ◌++◌, All, refl, sym, ap, subst, arith, slice_set, slice_index, slice_index_or, length, sum_by, count_by}
use Rattle.std.proofs.Math.Nat.{mod-add-mod}
use Rattle.std.proofs.Math.Option.{some, some-injective, some-ne-none}
use Rattle.std.proofs.Math.ListN.{get_elem?}
use Rattle.std.proofs.lemmas.Bool.{cases_eq, cases_lt, eq-eqb, ne_eqb}
use Rattle.std.proofs.lemmas.List.Sums.{sum_by-cons, sum_by_push}
use Rattle.atomic_table.specs.Table.{Allows, keeps}
use Rattle.nsc_outside.specs.Numbers.{times_drawn, IsNumbered, Draws}

-- what a number that is drawn adds to the count of one
abbrev weight : ℕ → ℕ → ℕ
weight drawn number = cond (drawn == number) 1 0

weight-same : (drawn number : ℕ) → drawn ≡ number → weight drawn number ≡ 1
weight-same drawn number same = ap {B = ℕ} (λ (b : Bool). cond b 1 0) (eq-eqb drawn number same)

weight-other : (drawn number : ℕ) → drawn ≢ number → weight drawn number ≡ 0
weight-other drawn number other = ap {B = ℕ} (λ (b : Bool). cond b 1 0) (ne_eqb drawn number other)

-- a sum over all sets, after one of them changed
sum_by-changed : (f : List ℕ → ℕ) (draws : List (List ℕ)) (seat : ℕ) (before after : List ℕ) → get_elem? draws seat ≡ some before → sum_by f (slice_set draws seat after) + f before ≡ sum_by f draws + f after
sum_by-changed f [] seat before after at = absurd (some-ne-none before (sym at))
sum_by-changed f (x ∷ xs) zero before after at =
    let same : f x ≡ f before = ap f (some-injective x before at) in
    omega (arith, sum_by-cons f after xs, sum_by-cons f x xs)
sum_by-changed f (x ∷ xs) (suc seat) before after at =
    omega (arith, sum_by-cons f x (slice_set xs seat after), sum_by-cons f x xs, sum_by-changed f xs seat before after at)

-- a number is drawn once more where it is the one that a set drew
times_drawn-more : (number drawn : ℕ) (draws : List (List ℕ)) (seat : ℕ) (before : List ℕ) → get_elem? draws seat ≡ some before
    → times_drawn number (slice_set draws seat (before ++ drawn ∷ [])) ≡ times_drawn number draws + weight drawn number
times_drawn-more number drawn draws seat before at =
    omega (arith, sum_by-changed (count_by (λ n. n == number)) draws seat before (before ++ drawn ∷ []) at, sum_by_push (λ n. weight n number) before drawn)

-- the number of the next read is drawn once, and every other as often as before
next_drawn : (words : List ℕ) (draws : List (List ℕ)) (numbered : IsNumbered words draws) (seat : ℕ) (before : List ℕ) → get_elem? draws seat ≡ some before
    → IsNumbered (slice_set words 0 ((slice_index words 0 + 1) % 2 ^ 64)) (slice_set draws seat (before ++ (numbered.made + 1) ∷ []))
next_drawn words draws numbered seat before at =
    let made = numbered.made in
    record {
      made = made + 1;
      counted =
          let Counted : List ℕ → Type 0 = λ ws. slice_set ws 0 ((slice_index ws 0 + 1) % 2 ^ 64) ≡ (made + 1) % 2 ^ 64 ∷ [] in
          subst Counted (sym numbered.counted) (ap (λ n. n ∷ []) (mod-add-mod made (2 ^ 64) 1));
      once = λ number positive within.
          elim (cases_eq (made + 1) number) [
            | inl same ↦ omega (arith, times_drawn-more number (made + 1) draws seat before at, numbered.no_other number (inr (omega arith)), weight-same (made + 1) number same)
            | inr other ↦ omega (arith, times_drawn-more number (made + 1) draws seat before at, numbered.once number positive (omega arith), weight-other (made + 1) number other)
          ];
      no_other = λ number outside.
          elim outside [
            | inl none ↦ omega (arith, times_drawn-more number (made + 1) draws seat before at, numbered.no_other number (inl none), weight-other (made + 1) number (λ e. omega arith))
            | inr past ↦ omega (arith, times_drawn-more number (made + 1) draws seat before at, numbered.no_other number (inr (omega arith)), weight-other (made + 1) number (λ e. omega arith))
          ];
    }

-- what a set drew was drawn
times_drawn-le : (number : ℕ) (draws : List (List ℕ)) (seat : ℕ) (drawn : List ℕ) → get_elem? draws seat ≡ some drawn → count_by (λ n. n == number) drawn ≤ times_drawn number draws
times_drawn-le number [] seat drawn at = absurd (some-ne-none drawn (sym at))
times_drawn-le number (x ∷ xs) zero drawn at =
    let same = ap (count_by (λ n. n == number)) (some-injective x drawn at) in
    omega (arith, sum_by-cons (count_by (λ n. n == number)) x xs)
times_drawn-le number (x ∷ xs) (suc seat) drawn at =
    omega (arith, sum_by-cons (count_by (λ n. n == number)) x xs, times_drawn-le number xs seat drawn at)

-- a list has the numbers of its places
count_by-at : (drawn : List ℕ) (place d : ℕ) → place < length drawn → 0 < count_by (λ n. n == slice_index_or drawn place d) drawn
count_by-at [] place d within = absurd (omega arith)
count_by-at (x ∷ xs) zero d within = omega (arith, sum_by-cons (λ n. weight n x) x xs, weight-same x x refl)
count_by-at (x ∷ xs) (suc place) d within =
    omega (arith, sum_by-cons (λ n. weight n (slice_index_or xs place d)) x xs, count_by-at xs place d (omega arith))

-- the number of the next read is above those that a set drew
next_above : (words : List ℕ) (draws : List (List ℕ)) (numbered : IsNumbered words draws) (seat : ℕ) (drawn : List ℕ) → get_elem? draws seat ≡ some drawn → All (λ n. n < numbered.made + 1) drawn
next_above words draws numbered seat drawn at place d within =
    let number = slice_index_or drawn place d in
    elim (cases_lt numbered.made number) [
      | inl past ↦ absurd (omega (arith, numbered.no_other number (inr past), times_drawn-le number draws seat drawn at, count_by-at drawn place d within))
      | inr below ↦ omega arith
    ]

-- a read may draw its number, whatever was drawn before
pub draw_allowed : (slots seat : ℕ) (drawn : List ℕ) (carried : List (ℕ × Unit {0}))
    → Allows {S = Unit {0}} (λ state. IsNumbered state.words state.views) slots seat (drawn, carried) 0 (λ made. (made + 1) % 2 ^ 64) (λ made after. Draws drawn after.0 (λ number. number % 2 ^ 64 ≡ (made + 1) % 2 ^ 64))
draw_allowed slots seat drawn carried state numbered same at within =
    let number = numbered.made + 1 in (
      drawn ++ number ∷ [],
      keeps,
      tt,
      next_drawn state.words state.views numbered seat drawn at,
      record {
        number = number;
        from_one = omega arith;
        above = next_above state.words state.views numbered seat drawn at;
        drawn = refl;
        told =
            let Told : List ℕ → Type 0 = λ ws. number % 2 ^ 64 ≡ (slice_index ws 0 + 1) % 2 ^ 64 in
            subst Told (sym numbered.counted) (sym (mod-add-mod numbered.made (2 ^ 64) 1));
      },
    )
