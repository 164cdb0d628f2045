-- A line that lacks the digits of a port with a slash after them has no entry of this port.
use Rattle.std.proofs.Common.{◌≡◌, ℕ, ◌+◌, ◌-◌, ◌*◌, ◌^◌, ◌<◌, ◌≤◌, Bool, true, false, ◌==◌, ◌⊎◌, inl, inr, nat_lt, if◌then◌else◌, List, [], ◌∷◌, ◌++◌, length, take, drop, get_or, decimal, rules, Some, None, refl, sym, ◌∙◌, ap, subst, arith, append_assoc, length-append}
use Rattle.std.specs.List.{after_first, before_first, list_all, position_or_len}
use Rattle.std.specs.Char.{is_ascii_digit}
use Rattle.std.proofs.lemmas.Bool.{and_left, and_parts, cases_lt, eqb-true, false_from_ne_true}
use Rattle.std.proofs.lemmas.Bool.Decides.{nat_tests}
use Rattle.std.proofs.lemmas.List.{drop_all, drop_at, take_at}
use Rattle.std.proofs.lemmas.List.Sums.{passes_at_first, split_at_first}
use Rattle.std.proofs.lemmas.Fmt.{decimal-digits_value}
use Rattle.std.proofs.lemmas.Slice.Eq.{bytes_eq-Decides}
use Rattle.std.proofs.lemmas.Str.Parse.{IsNumeralModel, numerals_by_weight}
use Rattle.nsc_base.specs.declared.search.Case.TheVariants.{Counts}
use Rattle.nsc_base.specs.Decimal.{value_of}
use Rattle.nsc_base.specs.Found.{Lacks}
use Rattle.nsc_base.specs.Text.{is_filled}
use Rattle.nsc_model.specs.declared.row.Service.{Service}
use Rattle.nsc_model.specs.Entries.{if_named}
use Rattle.nsc_model.specs.ServiceLines.{is_slash, port_of, proto_fits, service_of_line, service_ported}
use Rattle.nsc_model.specs.Users.{◌>>=◌}
use Rattle.nsc_nets.proofs.Lacking.{AllLack, words_lack}
use Rattle.nsc_nets.proofs.Unnamed.{no_service_line}

-- ---- digits end with those of their value

abbrev AreDigits : List ℕ → Type 0
AreDigits text = list_all is_ascii_digit text ≡ true

own : IsNumeralModel AreDigits value_of
own = numerals_by_weight AreDigits (search rules) value_of (search rules)

-- after zeros at the front
pub after_zeros : (text : List ℕ) → 0 < length text → AreDigits text → value_of text < 2 ^ 64 → (zeros : List ℕ) × (text ≡ zeros ++ decimal (value_of text))
after_zeros [] filled all small = absurd (omega arith)
after_zeros (x ∷ []) filled all small = ([], sym (decimal-digits_value own (x ∷ []) all (omega arith) (λ zero. refl) small))
after_zeros (x ∷ y ∷ ys) filled all small =
    elim (x == 48) as (λ v. (x == 48) ≡ v → (zeros : List ℕ) × (x ∷ y ∷ ys ≡ zeros ++ decimal (value_of (x ∷ y ∷ ys)))) [
      | true ↦ λ is.
          let zero : x ≡ 48 = eqb-true x 48 is in
          let same : value_of (x ∷ y ∷ ys) ≡ value_of (y ∷ ys) = ap (λ d. (d - 48) * 10 ^ length (y ∷ ys) + value_of (y ∷ ys)) zero ∙ omega arith in
          let later = after_zeros (y ∷ ys) (omega arith) (and_parts (is_ascii_digit x) (list_all is_ascii_digit (y ∷ ys)) all).1 (omega (arith, same, small)) in
          (x ∷ later.0, ap (λ (ds : List ℕ). x ∷ ds) (later.1 ∙ ap (λ n. later.0 ++ decimal n) (sym same)))
      | false ↦ λ other. ([], sym (decimal-digits_value own (x ∷ y ∷ ys) all (omega arith) (λ zero. absurd (grind (arith, nat_tests))) small))
    ] refl

-- what a port is spelled by
pub port_digits : (text : List ℕ) (port : ℕ) → port_of text ≡ Some port → (0 < length text) × ((AreDigits text) × ((value_of text ≡ port) × (port < 65536)))
port_digits [] port is = cc
port_digits (x ∷ xs) port is =
    elim (list_all is_ascii_digit (x ∷ xs)) as (λ a. list_all is_ascii_digit (x ∷ xs) ≡ a → port_of (x ∷ xs) ≡ Some port → (0 < length (x ∷ xs)) × ((AreDigits (x ∷ xs)) × ((value_of (x ∷ xs) ≡ port) × (port < 65536)))) [
      | true ↦ λ all known. by_size (x ∷ xs) port (omega arith) all (nat_lt (value_of (x ∷ xs)) (2 ^ 32)) (rw all at known)
      | false ↦ λ other known. let none = rw other at known in cc
    ] refl is
  where
    below : (text : List ℕ) (port : ℕ) → 0 < length text → AreDigits text → (small : Bool) → nat_lt (value_of text) 65536 ≡ small → (if small then Some (value_of text) else None) ≡ Some port → (0 < length text) × ((AreDigits text) × ((value_of text ≡ port) × (port < 65536)))
    below text port filled all false low is = cc
    below text port filled all true low is =
        let value : value_of text ≡ port = cc in
        let bound : value_of text < 65536 = grind (arith, nat_tests) in
        (filled, (all, (value, omega (arith, value, bound))))

    by_size : (text : List ℕ) (port : ℕ) → 0 < length text → AreDigits text → (wide : Bool) → ((if wide then Some (value_of text) else None) >>= λ n. if nat_lt n 65536 then Some n else None) ≡ Some port → (0 < length text) × ((AreDigits text) × ((value_of text ≡ port) × (port < 65536)))
    by_size text port filled all false is = cc
    by_size text port filled all true is = below text port filled all (nat_lt (value_of text) 65536) refl is

-- ---- a needle in the midst

stands_there : (front needle back : List ℕ) → Lacks Counts needle (front ++ (needle ++ back)) → ⊥
stands_there front needle back lack =
    let size : length front + length needle - length front ≡ length needle = omega arith in
    let there : take (length front + length needle - length front) (drop (length front) (front ++ (needle ++ back))) ≡ needle =
    ap (λ n. take n (drop (length front) (front ++ (needle ++ back)))) size ∙ ap (take (length needle)) (drop_at front (needle ++ back) (length front) refl) ∙ take_at needle back (length needle) refl in
    lack (record { from = length front; to = length front + length needle }) (record {
      ordered = omega arith;
      ends = omega (arith, length-append front (needle ++ back), length-append needle back);
      same = (bytes_eq-Decides _ needle).1 there;
    })

-- a word with a slash and something after it
at_slash : (word : List ℕ) → is_filled (after_first is_slash word) ≡ true → word ≡ before_first is_slash word ++ 47 ∷ after_first is_slash word
at_slash word filled = by (cases_lt (position_or_len is_slash word) (length word))
  where
    by : (position_or_len is_slash word < length word) ⊎ (length word ≤ position_or_len is_slash word) → word ≡ before_first is_slash word ++ 47 ∷ after_first is_slash word
    by (inl below) = split_at_first is_slash word 0 below ∙ ap (λ b. before_first is_slash word ++ b ∷ after_first is_slash word) (eqb-true (get_or word (position_or_len is_slash word) 0) 47 (passes_at_first is_slash word 0 below))
    by (inr past) = let none : after_first is_slash word ≡ [] = drop_all (position_or_len is_slash word + 1) word (omega (arith, past)) in let never : false ≡ true = sym (ap is_filled none) ∙ filled in cc

-- the word of a port has its digits and a slash after them
has_digits : (word : List ℕ) (port : ℕ) → port_of (before_first is_slash word) ≡ Some port → is_filled (after_first is_slash word) ≡ true → Lacks Counts (decimal port ++ 47 ∷ []) word → ⊥
has_digits word port known filled lack =
    let digits = port_digits (before_first is_slash word) port known in
    let front = after_zeros (before_first is_slash word) digits.0 digits.1.0 (omega (arith, digits.1.1.0, digits.1.1.1)) in
    let rest = after_first is_slash word in
    let is : word ≡ front.0 ++ ((decimal port ++ 47 ∷ []) ++ rest) =
    at_slash word filled ∙ ap (λ (ds : List ℕ). ds ++ 47 ∷ rest) (front.1 ∙ ap (λ n. front.0 ++ decimal n) digits.1.1.0)
    ∙ append_assoc front.0 (decimal port) (47 ∷ rest) ∙ ap (λ (ds : List ℕ). front.0 ++ ds) (sym (append_assoc (decimal port) (47 ∷ []) rest)) in
    stands_there front.0 (decimal port ++ 47 ∷ []) rest (subst (Lacks Counts (decimal port ++ 47 ∷ [])) is lack)

pub no_service_ported : (port : ℕ) (proto line : List ℕ) → Lacks Counts (decimal port ++ 47 ∷ []) line → if_named (service_ported port proto) (service_of_line line) ≡ None
no_service_ported port proto line lack =
    let needle : List ℕ = decimal port ++ 47 ∷ [] in
    no_service_line (service_ported port proto) line (λ first second others n is known filled.
    let all : AllLack Counts needle (first ∷ second ∷ others) = rw is at (words_lack Counts needle line lack) in
    let found : Service = record { name = first; proto = after_first is_slash second; aliases = others; port = n } in
    and_left (n == port) (proto_fits proto found) (false_from_ne_true (n == port) (λ same.
    let equal : n ≡ port = eqb-true n port same in
    has_digits second port (known ∙ ap Some equal) filled all.1.0)))
