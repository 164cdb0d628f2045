-- Dotted decimal: what the definition reads is what the grammar spells.
use Rattle.std.proofs.Common.{◌≡◌, ℕ, ◌<◌, ◌==◌, ◌&&◌, nat_lt, true, false, List, [], ◌∷◌, ◌++◌, length, map, decimal, Some, refl, sym, ◌∙◌, ap, subst, inl, inr, arith, ◌≢◌, ◌⊎◌, append_assoc, bytes_eq}
use Rattle.std.specs.List.{join_with_byte}
use Rattle.std.specs.Str.Parse.{AllDigits, digits_value}
use Rattle.std.specs.Net.Grammar.{IsDotted}
use Rattle.std.specs.Net.Text.{dotted_text}
use Rattle.std.proofs.lemmas.Bool.Decides.{nat_tests}
use Rattle.std.proofs.lemmas.Slice.Eq.{bytes_eq-Decides}
use Rattle.std.proofs.lemmas.Fmt.{decimal_is_IsNumeral}
use Rattle.std.proofs.lemmas.Str.Parse.{digit_from_value}
use Rattle.nsc_base.specs.Text.{fields_of}
use Rattle.nsc_base.specs.Addresses.{octet_of, each_spelled, v4_of, v4_text}
use Rattle.nsc_addr.proofs.Fields.{IsUncut, AllUncut, uncut-append, fields-join, join-fields}
use Rattle.nsc_addr.proofs.Options.{if_some, both_true, exactly_some, each_some}

-- each number is below 256
abbrev pub AllOctets : List ℕ → Type 0
AllOctets [] = Unit {0}
AllOctets (n ∷ ns) = (n < 256) × AllOctets ns

is_other : (a b : ℕ) → a ≢ b → (a == b) ≡ false
is_other a b h = grind (arith, nat_tests)

-- digits hold no dot and no colon
digits_uncut : (cut : ℕ) (digits : List ℕ) → (cut < 48) ⊎ (57 < cut) → AllDigits 10 digits → IsUncut cut digits
digits_uncut cut [] outside all = refl
digits_uncut cut (c ∷ cs) outside all =
    let other : (c == cut) ≡ false = is_other c cut (λ same. omega (arith, digit_from_value c all.0)) in
    rw other (digits_uncut cut cs outside all.1)

decimal_uncut : (cut n : ℕ) → (cut < 48) ⊎ (57 < cut) → n < 256 → IsUncut cut (decimal n)
decimal_uncut cut n outside small = digits_uncut cut (decimal n) outside (decimal_is_IsNumeral n (omega arith)).0.1

is_octet : (n : ℕ) → n < 256 → nat_lt n 256 ≡ true
is_octet n small = grind (arith, nat_tests)

octet_below : (n : ℕ) → nat_lt n 256 ≡ true → n < 256
octet_below n h = grind (arith, nat_tests)

octet-decimal : (n : ℕ) → n < 256 → octet_of (decimal n) ≡ Some n
octet-decimal n small =
    let value : digits_value 10 (decimal n) ≡ n = (decimal_is_IsNumeral n (omega arith)).1 in
    let same : bytes_eq (decimal n) (decimal n) ≡ true = (bytes_eq-Decides (decimal n) (decimal n)).1 refl in
    rw (value, is_octet n small, same) refl

octet_is : (text : List ℕ) (n : ℕ) → octet_of text ≡ Some n → (n < 256) × (text ≡ decimal n)
octet_is text n h =
    let value : ℕ = digits_value 10 text in
    let found = if_some (nat_lt value 256 && bytes_eq (decimal value) text) value n h in
    let tests = both_true (nat_lt value 256) (bytes_eq (decimal value) text) found.0 in
    let small : value < 256 = octet_below value tests.0 in
    let same : decimal value ≡ text = (bytes_eq-Decides (decimal value) text).0 tests.1 in
    (rw found.1 at small, sym same ∙ ap decimal found.1)

octets-decimal : (ns : List ℕ) → AllOctets ns → each_spelled octet_of (map decimal ns) ≡ Some ns
octets-decimal [] all = refl
octets-decimal (n ∷ ns) all = rw (octet-decimal n all.0, octets-decimal ns all.1) refl

octets_uncut : (ns : List ℕ) → AllOctets ns → AllUncut 46 (map decimal ns)
octets_uncut [] all = tt
octets_uncut (n ∷ ns) all = (decimal_uncut 46 n (inl (omega arith)) all.0, octets_uncut ns all.1)

octets_are : (texts : List (List ℕ)) (ns : List ℕ) → each_spelled octet_of texts ≡ Some ns → (texts ≡ map decimal ns) × AllOctets ns
octets_are [] [] h = (refl, tt)
octets_are [] (n ∷ ns) h = cc
octets_are (text ∷ texts) ns h =
    let parts = each_some octet_of text texts ns h in
    let here = octet_is text parts.0 parts.2 in
    let later = octets_are texts parts.1 parts.3 in
    let P : List ℕ → Type 0 = λ ms. (text ∷ texts ≡ map decimal ms) × AllOctets ms in
    subst P parts.4 ((λ i. here.1 i ∷ later.0 i), (here.0, later.1))

-- four numbers below 256, printed, are read as they were
pub v4_of-v4_text : (address : List ℕ) → length address ≡ 4 → AllOctets address → v4_of (v4_text address) ≡ Some address
v4_of-v4_text [] size all = absurd (omega arith)
v4_of-v4_text (n ∷ ns) size all =
    let cut = fields-join 46 (decimal n) (map decimal ns) (octets_uncut (n ∷ ns) all) in
    let read = octets-decimal (n ∷ ns) all in
    rw (cut, read, size) refl

octets_text : (a b c d : ℕ) → v4_text (a ∷ b ∷ c ∷ d ∷ []) ≡ dotted_text a b c d
octets_text a b c d = sym (simp append_assoc)

pub v4_of_dotted : (text octets : List ℕ) → IsDotted text octets → v4_of text ≡ Some octets
v4_of_dotted text octets dotted =
    let fit = dotted.fit in
    let spelled : text ≡ v4_text (dotted.a ∷ dotted.b ∷ dotted.c ∷ dotted.d ∷ []) = dotted.spelled ∙ sym (octets_text dotted.a dotted.b dotted.c dotted.d) in
    ap v4_of spelled ∙ v4_of-v4_text (dotted.a ∷ dotted.b ∷ dotted.c ∷ dotted.d ∷ []) refl (fit.0, (fit.1, (fit.2, (fit.3, tt)))) ∙ ap Some (sym dotted.value)

four_dotted : (text octets : List ℕ) → text ≡ v4_text octets → length octets ≡ 4 → AllOctets octets → IsDotted text octets
four_dotted text (a ∷ b ∷ c ∷ d ∷ []) is size all =
    record { a = a; b = b; c = c; d = d; fit = (all.0, all.1.0, all.1.1.0, all.1.1.1.0); value = refl; spelled = is ∙ octets_text a b c d }
four_dotted text [] is size all = absurd (omega arith)
four_dotted text (a ∷ []) is size all = absurd (omega arith)
four_dotted text (a ∷ b ∷ []) is size all = absurd (omega arith)
four_dotted text (a ∷ b ∷ c ∷ []) is size all = absurd (omega arith)
four_dotted text (a ∷ b ∷ c ∷ d ∷ e ∷ rest) is size all = absurd (omega arith)

pub dotted_of_v4 : (text octets : List ℕ) → v4_of text ≡ Some octets → IsDotted text octets
dotted_of_v4 text octets h =
    let found = exactly_some 4 (each_spelled octet_of (fields_of 46 text)) octets h in
    let are = octets_are (fields_of 46 text) octets found.0 in
    let joined : text ≡ v4_text octets = sym (join-fields 46 text) ∙ ap (join_with_byte 46) are.0 in
    four_dotted text octets joined found.1 are.1

-- such a text has a dot, and no colon
pub dotted_front : (text octets : List ℕ) → IsDotted text octets → (front rest : List ℕ) × (text ≡ front ++ 46 ∷ rest)
dotted_front text octets dotted =
    (decimal dotted.a, v4_text (dotted.b ∷ dotted.c ∷ dotted.d ∷ []), dotted.spelled ∙ sym (octets_text dotted.a dotted.b dotted.c dotted.d))

pub dotted_uncut : (text octets : List ℕ) → IsDotted text octets → IsUncut 58 text
dotted_uncut text octets dotted =
    let fit = dotted.fit in
    let none : (n : ℕ) → n < 256 → IsUncut 58 (decimal n) = λ n small. decimal_uncut 58 n (inr (omega arith)) small in
    let dot : (ys : List ℕ) → IsUncut 58 ys → IsUncut 58 (46 ∷ ys) = λ ys h. h in
    let back = uncut-append 58 (decimal dotted.c) (46 ∷ decimal dotted.d) (none dotted.c fit.2) (dot (decimal dotted.d) (none dotted.d fit.3)) in
    let middle = uncut-append 58 (decimal dotted.b) (46 ∷ (decimal dotted.c ++ 46 ∷ decimal dotted.d)) (none dotted.b fit.1) (dot (decimal dotted.c ++ 46 ∷ decimal dotted.d) back) in
    let all = uncut-append 58 (decimal dotted.a) (46 ∷ (decimal dotted.b ++ 46 ∷ (decimal dotted.c ++ 46 ∷ decimal dotted.d))) (none dotted.a fit.0) (dot (decimal dotted.b ++ 46 ∷ (decimal dotted.c ++ 46 ∷ decimal dotted.d)) middle) in
    subst (λ (t : List ℕ). IsUncut 58 t) (sym (dotted.spelled ∙ sym (octets_text dotted.a dotted.b dotted.c dotted.d))) all

pub dotted_octets : (text octets : List ℕ) → IsDotted text octets → (a b c d : ℕ) × (octets ≡ a ∷ b ∷ c ∷ d ∷ [])
dotted_octets text octets dotted = (dotted.a, dotted.b, dotted.c, dotted.d, dotted.value)
