-- What stands somewhere in bytes.
use Rattle.std.proofs.Common.{◌≡◌, ℕ, ◌+◌, ◌-◌, ◌*◌, ◌^◌, ◌<◌, Bool, true, false, if◌then◌else◌, ◌==◌, ◌&&◌, ◌||◌, nat_lt, List, [], ◌∷◌, ◌++◌, length, get_or, take, drop, filter, Some, None, refl, sym, ◌∙◌, ap, subst, arith, append_assoc, length-append}
use Rattle.std.specs.Char.{is_ascii_digit}
use Rattle.std.specs.Fmt.{decimal}
use Rattle.std.specs.List.{list_all, list_any}
use Rattle.std.specs.Str.{all_ascii_digits, bytes_eq}
use Rattle.std.proofs.lemmas.Bool.{and_parts}
use Rattle.std.proofs.lemmas.Bool.Decides.{Decides-eqb, nat_tests}
use Rattle.std.proofs.lemmas.Fmt.{decimal-digits_value}
use Rattle.std.proofs.lemmas.List.{append-nil}
use Rattle.std.proofs.lemmas.Slice.Eq.{bytes_eq-Decides}
use Rattle.std.proofs.lemmas.Str.Parse.{IsNumeralModel, WeighsDigits, numerals_by_weight, tells_all_ascii_digits}
use Rattle.std.proofs.Math.Seq.{drop-append_seam, take-append_seam}
use Rattle.nsc_base.specs.declared.search.Case.TheVariants.{Counts}
use Rattle.nsc_base.specs.declared.span.Span.{Span}
use Rattle.nsc_base.specs.Decimal.{decimal_of, is_decimal, value_of}
use Rattle.nsc_base.specs.Found.{Lacks}
use Rattle.nsc_base.specs.Text.{is_filled, is_white, onto_first, part, pieces, trimmed}

-- a piece stands somewhere in bytes
abbrev pub StandsIn : List ℕ → List ℕ → Type 0
StandsIn piece bytes = (front : List ℕ) × ((rest : List ℕ) × (bytes ≡ front ++ (piece ++ rest)))

-- so they do not lack it
pub not_lacking : (piece bytes : List ℕ) → StandsIn piece bytes → Lacks Counts piece bytes → ⊥
not_lacking piece bytes there lack =
    let front = there.0 in
    let rest = there.1.0 in
    let at : Span = record { from = length front; to = length front + length piece } in
    let size : length front + length piece - length front ≡ length piece = omega arith in
    let cut : drop (length front) bytes ≡ piece ++ rest = ap (drop (length front)) there.1.1 ∙ drop-append_seam front (piece ++ rest) in
    let is : part bytes at ≡ piece = ap (λ n. take n (drop (length front) bytes)) size ∙ ap (take (length piece)) cut ∙ take-append_seam piece rest in
    lack at (record {
      ordered = omega arith;
      ends = omega (arith, ap length there.1.1, length-append front (piece ++ rest), length-append piece rest);
      same = (bytes_eq-Decides (part bytes at) piece).1 is;
    })

pub stands_within : (a b c : List ℕ) → StandsIn a b → StandsIn b c → StandsIn a c
stands_within a b c inner outer =
    let f = inner.0 in
    let r = inner.1.0 in
    let g = outer.0 in
    let s = outer.1.0 in
    let joined : (f ++ (a ++ r)) ++ s ≡ f ++ (a ++ (r ++ s)) = append_assoc f (a ++ r) s ∙ ap (λ (m : List ℕ). f ++ m) (append_assoc a r s) in
    (g ++ f, (r ++ s, outer.1.1 ∙ ap (λ (m : List ℕ). g ++ (m ++ s)) inner.1.1 ∙ ap (λ (m : List ℕ). g ++ m) joined ∙ sym (append_assoc g f (a ++ (r ++ s)))))

stands_whole : (bytes : List ℕ) → StandsIn bytes bytes
stands_whole bytes = ([], ([], sym (append-nil bytes)))

stands_later : (x : ℕ) (piece bytes : List ℕ) → StandsIn piece bytes → StandsIn piece (x ∷ bytes)
stands_later x piece bytes there = (x ∷ there.0, (there.1.0, ap (λ (m : List ℕ). x ∷ m) there.1.1))

pub trimmed_stands : (line : List ℕ) → StandsIn (trimmed line) line
trimmed_stands [] = ([], ([], refl))
trimmed_stands (b ∷ bytes) =
    elim (is_white b) as (λ v. StandsIn (if v then trimmed bytes else b ∷ bytes) (b ∷ bytes)) [
      | true ↦ stands_later b (trimmed bytes) bytes (trimmed_stands bytes)
      | false ↦ stands_whole (b ∷ bytes)
    ]

-- each of these stands in the bytes
abbrev pub AllStand : List (List ℕ) → List ℕ → Type 0
AllStand [] bytes = Unit {0}
AllStand (piece ∷ others) bytes = StandsIn piece bytes × AllStand others bytes

all_later : (x : ℕ) (ps : List (List ℕ)) (bytes : List ℕ) → AllStand ps bytes → AllStand ps (x ∷ bytes)
all_later x [] bytes all = tt
all_later x (piece ∷ others) bytes all = (stands_later x piece bytes all.0, all_later x others bytes all.1)

-- pieces stand in what they are cut from, the first of them at its front
record PiecesStand (ps : List (List ℕ)) (bytes : List ℕ) : Type 0 where
  first : List ℕ
  later : List (List ℕ)
  rest : List ℕ
  are : ps ≡ first ∷ later
  front : bytes ≡ first ++ rest
  others : AllStand later bytes

all_of : (ps : List (List ℕ)) (bytes : List ℕ) → PiecesStand ps bytes → AllStand ps bytes
all_of ps bytes stand = subst (λ (qs : List (List ℕ)). AllStand qs bytes) (sym stand.are) (([], (stand.rest, stand.front)), stand.others)

cut_stand : (cuts : ℕ → Bool) (bytes : List ℕ) → PiecesStand (pieces cuts bytes) bytes
cut_stand cuts [] = record { first = []; later = []; rest = []; are = refl; front = refl; others = tt }
cut_stand cuts (b ∷ bytes) =
    let onward = cut_stand cuts bytes in
    elim (cuts b) as (λ v. PiecesStand (if v then [] ∷ pieces cuts bytes else onto_first b (pieces cuts bytes)) (b ∷ bytes)) [
      | true ↦ record { first = []; later = pieces cuts bytes; rest = b ∷ bytes; are = refl; front = refl; others = all_later b (pieces cuts bytes) bytes (all_of (pieces cuts bytes) bytes onward) }
      | false ↦ record { first = b ∷ onward.first; later = onward.later; rest = onward.rest; are = ap (onto_first b) onward.are; front = ap (λ (m : List ℕ). b ∷ m) onward.front; others = all_later b onward.later bytes onward.others }
    ]

pub pieces_stand : (cuts : ℕ → Bool) (bytes : List ℕ) → AllStand (pieces cuts bytes) bytes
pieces_stand cuts bytes = all_of (pieces cuts bytes) bytes (cut_stand cuts bytes)

-- one of them that is there stands in the bytes
pub any_stands : (piece : List ℕ) (ps : List (List ℕ)) (bytes : List ℕ) → AllStand ps bytes → list_any (λ m. bytes_eq m piece) (filter is_filled ps) ≡ true → StandsIn piece bytes
any_stands piece [] bytes all h = cc
any_stands piece ([] ∷ others) bytes all h = any_stands piece others bytes all.1 h
any_stands piece ((b ∷ bs) ∷ others) bytes all h =
    elim (bytes_eq (b ∷ bs) piece) as (λ v. bytes_eq (b ∷ bs) piece ≡ v → (v || list_any (λ m. bytes_eq m piece) (filter is_filled others)) ≡ true → StandsIn piece bytes) [
      | true ↦ λ is e. subst (λ (m : List ℕ). StandsIn m bytes) ((bytes_eq-Decides (b ∷ bs) piece).0 is) all.0
      | false ↦ λ is e. any_stands piece others bytes all.1 e
    ] refl h

-- ---- numbers

all_digits : (ds : List ℕ) → list_all is_ascii_digit ds ≡ all_ascii_digits ds
all_digits [] = refl
all_digits (d ∷ ds) = ap (λ b. is_ascii_digit d && b) (all_digits ds)

weighs : WeighsDigits value_of
weighs = record { empty = refl; more = λ c cs k. refl }

numerals : IsNumeralModel (λ ds. all_ascii_digits ds ≡ true) value_of
numerals = numerals_by_weight (λ ds. all_ascii_digits ds ≡ true) tells_all_ascii_digits value_of weighs

-- digits with no zero at the front are those that their number is printed with
printed : (ds : List ℕ) → list_all is_ascii_digit ds ≡ true → 0 < length ds → (get_or ds 0 0 ≡ 48 → length ds ≡ 1) → value_of ds < 2 ^ 64 → StandsIn (decimal (value_of ds)) ds
printed ds all filled lead small = subst (λ (m : List ℕ). StandsIn m ds) (sym (decimal-digits_value numerals ds (sym (all_digits ds) ∙ all) filled lead small)) (stands_whole ds)

none_times : (p v : ℕ) → (48 - 48) * p + v ≡ v
none_times p v = omega arith

-- the digits that a number is printed with stand in all digits that spell it
digits_stand : (ds : List ℕ) → list_all is_ascii_digit ds ≡ true → 0 < length ds → value_of ds < 2 ^ 64 → StandsIn (decimal (value_of ds)) ds
digits_stand [] all filled small = absurd (omega arith)
digits_stand (d ∷ []) all filled small = printed (d ∷ []) all filled (λ is. refl) small
digits_stand (d ∷ e ∷ ds) all filled small =
    elim (d == 48) as (λ v. (d == 48) ≡ v → StandsIn (decimal (value_of (d ∷ e ∷ ds))) (d ∷ e ∷ ds)) [
      | true ↦ λ zero.
          let is : d ≡ 48 = (Decides-eqb d 48).0 zero in
          let same : value_of (d ∷ e ∷ ds) ≡ value_of (e ∷ ds) = ap (λ n. (n - 48) * 10 ^ length (e ∷ ds) + value_of (e ∷ ds)) is ∙ none_times (10 ^ length (e ∷ ds)) (value_of (e ∷ ds)) in
          let below : value_of (e ∷ ds) < 2 ^ 64 = rw same at small in
          subst (λ n. StandsIn (decimal n) (d ∷ e ∷ ds)) (sym same) (stands_later d (decimal (value_of (e ∷ ds))) (e ∷ ds) (digits_stand (e ∷ ds) (and_parts (is_ascii_digit d) (list_all is_ascii_digit (e ∷ ds)) all).1 (omega arith) below))
      | false ↦ λ other. printed (d ∷ e ∷ ds) all filled (λ is. cc) small
    ] refl

pub number_stands : (text : List ℕ) (n : ℕ) → decimal_of text ≡ Some n → StandsIn (decimal n) text
number_stands text n h =
    elim (is_decimal text && nat_lt (value_of text) (2 ^ 32)) as (λ v. (is_decimal text && nat_lt (value_of text) (2 ^ 32)) ≡ v → (if v then Some (value_of text) else None) ≡ Some n → StandsIn (decimal n) text) [
      | true ↦ λ is e.
          let both = and_parts (is_decimal text) (nat_lt (value_of text) (2 ^ 32)) is in
          let digits = and_parts (is_filled text) (list_all is_ascii_digit text) both.0 in
          let small : value_of text < 2 ^ 64 = grind (arith, nat_tests) in
          let value : value_of text ≡ n = cc in
          subst (λ m. StandsIn (decimal m) text) value (digits_stand text digits.1 (filled_length text digits.0) small)
      | false ↦ λ is e. cc
    ] refl h
  where
    filled_length : (bytes : List ℕ) → is_filled bytes ≡ true → 0 < length bytes
    filled_length [] is = cc
    filled_length (b ∷ bytes) is = omega arith
