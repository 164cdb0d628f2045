-- How the text of an IPv6 address ends, and what a line must have for it.
use Rattle.std.proofs.Common.{◌≡◌, ℕ, zero, suc, ◌+◌, ◌-◌, ◌*◌, ◌/◌, ◌%◌, ◌<◌, ◌≤◌, true, false, List, [], ◌∷◌, ◌++◌, length, map, take, drop, get_or, replicate, codes, Option, Some, None, IfSome, ◌⊎◌, inl, inr, refl, sym, ◌∙◌, ap, subst, arith, append_assoc, length-append}
use Rattle.std.specs.Char.{digit_value, to_ascii_lowercase}
use Rattle.std.specs.Fmt.{digit_glyph, digits}
use Rattle.std.specs.Str.{bytes_eq}
use Rattle.std.specs.Net.Addr.{octets_of, segments_of}
use Rattle.std.specs.Net.Grammar.{IsColonHex, IsDotted, IsGroup, IsGroups, IsGroupsAfter}
use Rattle.std.proofs.lemmas.Bool.{cases_lt, false_from_ne_true}
use Rattle.std.proofs.lemmas.Bool.Decides.{nat_tests}
use Rattle.std.proofs.lemmas.List.{append-nil, drop_at, get_or-append_right, take_all}
use Rattle.std.proofs.lemmas.Slice.Eq.{bytes_eq-Decides}
use Rattle.nsc_base.specs.declared.search.Case.{Case}
use Rattle.nsc_base.specs.declared.search.Case.TheVariants.{Counts, Ignored}
use Rattle.nsc_base.specs.Addresses.{v4_of, v4_text, v6_of}
use Rattle.nsc_base.specs.Found.{Lacks, same_by}
use Rattle.nsc_base.specs.Text.{before_remark, words_of}
use Rattle.nsc_base.proofs.AddressLengths.{v4-length}
use Rattle.nsc_addr.proofs.ColonHex.{colon_hex_of_v6}
use Rattle.nsc_addr.proofs.Numerals.{below_0x1000, below_0x10000, four_digits}
use Rattle.nsc_model.specs.Entries.{if_named}
use Rattle.nsc_model.specs.Hosts.{host_addressed, host_of_line}
use Rattle.nsc_nets.proofs.Called.{unaddressed, wordless}
use Rattle.nsc_nets.proofs.DottedTexts.{dotted_is}
use Rattle.nsc_nets.proofs.Lacking.{AllLack, words_lack}
use Rattle.nsc_nets.proofs.Lengths.{is_spelled, other_bytes, spelled_in}

-- ---- what the last octets are written with

-- a group in hexadecimal, an IPv4 address, or nothing where they are 0
data Ending (text octets : List ℕ) : Type 0 where
  in_hex : (front group before : List ℕ) (n : ℕ) → text ≡ front ++ group → octets ≡ before ++ n / 256 ∷ n % 256 ∷ [] → IsGroup group n → Ending text octets
  in_dots : (front last before v4 : List ℕ) → text ≡ front ++ last → octets ≡ before ++ v4 → IsDotted last v4 → Ending text octets
  in_zeros : (before : List ℕ) → octets ≡ before ++ 0 ∷ 0 ∷ [] → Ending text octets

-- with more before it
onto : (front rest more octets text whole : List ℕ) → text ≡ front ++ rest → whole ≡ more ++ octets → Ending rest octets → Ending text whole
onto front rest more octets text whole is parts (in_hex before group old n spelled value hex) =
    in_hex (front ++ before) group (more ++ old) n (is ∙ ap (λ xs. front ++ xs) spelled ∙ sym (append_assoc front before group)) (parts ∙ ap (λ xs. more ++ xs) value ∙ sym (append_assoc more old (n / 256 ∷ n % 256 ∷ []))) hex
onto front rest more octets text whole is parts (in_dots before last old v4 spelled value dotted) =
    in_dots (front ++ before) last (more ++ old) v4 (is ∙ ap (λ xs. front ++ xs) spelled ∙ sym (append_assoc front before last)) (parts ∙ ap (λ xs. more ++ xs) value ∙ sym (append_assoc more old v4)) dotted
onto front rest more octets text whole is parts (in_zeros old value) = in_zeros (more ++ old) (parts ∙ ap (λ xs. more ++ xs) value ∙ sym (append_assoc more old (0 ∷ 0 ∷ [])))

same_octets : (last v4 : List ℕ) → IsDotted last v4 → octets_of (segments_of v4) ≡ v4
same_octets last v4 is =
    let a : (is.a * 256 + is.b) / 256 ≡ is.a = omega (arith, is.fit) in
    let b : (is.a * 256 + is.b) % 256 ≡ is.b = omega (arith, is.fit) in
    let c : (is.c * 256 + is.d) / 256 ≡ is.c = omega (arith, is.fit) in
    let d : (is.c * 256 + is.d) % 256 ≡ is.d = omega (arith, is.fit) in
    ap (λ octets. octets_of (segments_of octets)) is.value ∙ (λ i. a i ∷ b i ∷ c i ∷ d i ∷ []) ∙ sym is.value

groups_ending : (segments lead text : List ℕ) (s : ℕ) → IsGroupsAfter true lead text (s ∷ segments) → Ending text (octets_of (s ∷ segments))
groups_ending [] lead text s (inl more) = in_hex lead more.0 [] s (more.2 ∙ ap (λ rest. (lead ++ more.0) ++ rest) more.4 ∙ append-nil (lead ++ more.0)) refl more.3
groups_ending (t ∷ segments) lead text s (inl more) = onto (lead ++ more.0) more.1 (s / 256 ∷ s % 256 ∷ []) (octets_of (t ∷ segments)) text (octets_of (s ∷ t ∷ segments)) more.2 refl (groups_ending segments (codes ":") more.1 t more.4)
groups_ending segments lead text s (inr last) = in_dots lead last.0 [] last.1 last.3 (ap octets_of last.5 ∙ same_octets last.0 last.1 last.4) last.4

octets-append : (xs ys : List ℕ) → octets_of (xs ++ ys) ≡ octets_of xs ++ octets_of ys
octets-append [] ys = refl
octets-append (x ∷ xs) ys = ap (λ (octets : List ℕ). (x / 256) ∷ (x % 256) ∷ octets) (octets-append xs ys)

zeros_more : (k : ℕ) → replicate {A = ℕ} (suc k) 0 ≡ replicate k 0 ++ 0 ∷ []
zeros_more zero = refl
zeros_more (suc k) = ap (λ (zeros : List ℕ). 0 ∷ zeros) (zeros_more k)

elided_ending : (tail head_text tail_text head text segments : List ℕ) → text ≡ head_text ++ codes "::" ++ tail_text → IsGroups true tail_text tail → length head + length tail < 8 → segments ≡ head ++ replicate (8 - length head - length tail) 0 ++ tail → Ending text (octets_of segments)
elided_ending [] head_text tail_text head text segments spelled groups room value =
    let k = 7 - length head in
    let many : 8 - length head - 0 ≡ suc k = omega (arith, room) in
    let zeros : segments ≡ (head ++ replicate k 0) ++ 0 ∷ [] =
    value ∙ append-nil (head ++ replicate (8 - length head - 0) 0) ∙ ap (λ n. head ++ replicate n 0) many ∙ ap (λ (zs : List ℕ). head ++ zs) (zeros_more k) ∙ sym (append_assoc head (replicate k 0) (0 ∷ [])) in
    in_zeros (octets_of (head ++ replicate k 0)) (ap octets_of zeros ∙ octets-append (head ++ replicate k 0) (0 ∷ []))
elided_ending (t ∷ tail) head_text tail_text head text segments spelled groups room value =
    let front : List ℕ = head ++ replicate (8 - length head - length (t ∷ tail)) 0 in
    onto (head_text ++ codes "::") tail_text (octets_of front) (octets_of (t ∷ tail)) text (octets_of segments) spelled (ap octets_of value ∙ octets-append front (t ∷ tail)) (groups_ending tail [] tail_text t groups)

eight_ending : (segments text : List ℕ) → IsGroups true text segments → length segments ≡ 8 → Ending text (octets_of segments)
eight_ending [] text groups eight = absurd (omega arith)
eight_ending (s ∷ segments) text groups eight = groups_ending segments [] text s groups

ending : (text segments : List ℕ) → IsColonHex text segments → Ending text (octets_of segments)
ending text segments (inl plain) = eight_ending segments text plain.0 plain.1
ending text segments (inr elided) = elided_ending elided.tail elided.head_text elided.tail_text elided.head text segments elided.spelled elided.tail_groups elided.room elided.value

v6_ending : (text octets : List ℕ) → v6_of text ≡ Some octets → Ending text octets
v6_ending text octets is =
    let found = colon_hex_of_v6 text octets is in
    subst (Ending text) found.2 (ending text found.0 found.1)

-- ---- the digits of a group that has three or more

glyph_of : (c : ℕ) → digit_value c < 16 → to_ascii_lowercase c ≡ digit_glyph false (digit_value c)
glyph_of c small = grind (arith, nat_tests)

-- the digit of a byte that is of this value
glyph_is : (c d : ℕ) → digit_value c < 16 → d ≡ digit_value c → to_ascii_lowercase c ≡ digit_glyph false d
glyph_is c d small is = glyph_of c small ∙ ap (digit_glyph false) (sym is)

-- where the group has a front and then its digits
abbrev EndsWith : List ℕ → ℕ → Type 0
EndsWith group n = (front last : List ℕ) × (group ≡ front ++ last) × (map to_ascii_lowercase last ≡ digits 16 false n)

one_small : (x n : ℕ) → x < 16 → 0 * 16 + x ≡ n → 256 ≤ n → ⊥
one_small x n a is large = omega arith

two_small : (x y n : ℕ) → x < 16 → y < 16 → (0 * 16 + x) * 16 + y ≡ n → 256 ≤ n → ⊥
two_small x y n a b is large = omega arith

three_small : (x y z n : ℕ) → x < 16 → y < 16 → z < 16 → ((0 * 16 + x) * 16 + y) * 16 + z ≡ n → n < 0x1000
three_small x y z n a b c is = omega arith

last_values : (high x y z n : ℕ) → x < 16 → y < 16 → z < 16 → ((high * 16 + x) * 16 + y) * 16 + z ≡ n → (n / 0x100 % 16 ≡ x) × ((n / 0x10 % 16 ≡ y) × (n % 16 ≡ z))
last_values high x y z n a b c is = (omega arith, (omega arith, omega arith))

first_value : (w x y z n : ℕ) → w < 16 → x < 16 → y < 16 → z < 16 → (((0 * 16 + w) * 16 + x) * 16 + y) * 16 + z ≡ n → (n / 0x1000 ≡ w) × (n < 0x10000)
first_value w x y z n a b c d is = (omega arith, omega arith)

three_last : (high x y z n : ℕ) → digit_value x < 16 → digit_value y < 16 → digit_value z < 16 → ((high * 16 + digit_value x) * 16 + digit_value y) * 16 + digit_value z ≡ n → map to_ascii_lowercase (x ∷ y ∷ z ∷ []) ≡ drop 1 (four_digits n)
three_last high x y z n a b c is =
    let values = last_values high (digit_value x) (digit_value y) (digit_value z) n a b c is in
    let first = glyph_is x (n / 0x100 % 16) a values.0 in
    let second = glyph_is y (n / 0x10 % 16) b values.1.0 in
    let third = glyph_is z (n % 16) c values.1.1 in
    (λ i. first i ∷ second i ∷ third i ∷ [])

group_ends : (group : List ℕ) (n : ℕ) → IsGroup group n → 256 ≤ n → EndsWith group n
group_ends [] n is large = absurd (omega (arith, is.0.0.0))
group_ends (x ∷ []) n is large = absurd (one_small (digit_value x) n is.0.0.1.0 is.0.1 large)
group_ends (x ∷ y ∷ []) n is large = absurd (two_small (digit_value x) (digit_value y) n is.0.0.1.0 is.0.0.1.1.0 is.0.1 large)
group_ends (x ∷ y ∷ z ∷ []) n is large =
    let few = three_small (digit_value x) (digit_value y) (digit_value z) n is.0.0.1.0 is.0.0.1.1.0 is.0.0.1.1.1.0 is.0.1 in
    ([], x ∷ y ∷ z ∷ [], refl, three_last 0 x y z n is.0.0.1.0 is.0.0.1.1.0 is.0.0.1.1.1.0 is.0.1 ∙ below_0x1000 n 1 large few refl)
group_ends (w ∷ x ∷ y ∷ z ∷ []) n is large = by (cases_lt n 0x1000)
  where
    last : map to_ascii_lowercase (x ∷ y ∷ z ∷ []) ≡ drop 1 (four_digits n)
    last = three_last (0 * 16 + digit_value w) x y z n is.0.0.1.1.0 is.0.0.1.1.1.0 is.0.0.1.1.1.1.0 is.0.1

    by : (n < 0x1000) ⊎ (0x1000 ≤ n) → EndsWith (w ∷ x ∷ y ∷ z ∷ []) n
    by (inl few) = (w ∷ [], x ∷ y ∷ z ∷ [], refl, last ∙ below_0x1000 n 1 large few refl)
    by (inr many) =
        let value = first_value (digit_value w) (digit_value x) (digit_value y) (digit_value z) n is.0.0.1.0 is.0.0.1.1.0 is.0.0.1.1.1.0 is.0.0.1.1.1.1.0 is.0.1 in
        let first = glyph_is w (n / 0x1000) is.0.0.1.0 value.0 in
        ([], w ∷ x ∷ y ∷ z ∷ [], refl, (λ i. first i ∷ last i) ∙ below_0x10000 n 0 many value.1 refl)
group_ends (v ∷ w ∷ x ∷ y ∷ z ∷ rest) n is large = absurd (omega (arith, is.1))

-- ---- what a word must have

at_end : (case : Case) (needle word front last : List ℕ) → word ≡ front ++ last → same_by case last needle ≡ true → Lacks case needle word → ⊥
at_end case needle word front last is same lack =
    let size : length word ≡ length front + length last = ap length is ∙ length-append front last in
    let rest : drop (length front) word ≡ last = ap (drop (length front)) is ∙ drop_at front last (length front) refl in
    let there : take (length word - length front) (drop (length front) word) ≡ last = ap (take (length word - length front)) rest ∙ take_all (length word - length front) last (omega (arith, size)) in
    lack (record { from = length front; to = length word }) (record {
      ordered = omega (arith, size);
      ends = omega arith;
      same = ap (λ piece. same_by case piece needle) there ∙ same;
    })

lower_again : (c : ℕ) → to_ascii_lowercase (to_ascii_lowercase c) ≡ to_ascii_lowercase c
lower_again c = grind (arith, nat_tests)

all_lower_again : (xs : List ℕ) → map to_ascii_lowercase (map to_ascii_lowercase xs) ≡ map to_ascii_lowercase xs
all_lower_again [] = refl
all_lower_again (x ∷ xs) = (λ i. lower_again x i ∷ all_lower_again xs i)

-- the last octets of sixteen
last_two : (before address : List ℕ) (a b : ℕ) → address ≡ before ++ a ∷ b ∷ [] → length address ≡ 16 → (get_or address 14 0 ≡ a) × (get_or address 15 0 ≡ b)
last_two before address a b is sixteen =
    let size : length before ≡ 14 = omega (arith, ap length is, length-append before (a ∷ b ∷ [])) in
    (ap (λ xs. get_or xs 14 0) is ∙ get_or-append_right before (a ∷ b ∷ []) 14 14 0 size (omega arith), ap (λ xs. get_or xs 15 0) is ∙ get_or-append_right before (a ∷ b ∷ []) 14 15 0 size (omega arith))

last_four : (before address last v4 : List ℕ) → address ≡ before ++ v4 → IsDotted last v4 → length address ≡ 16 → last ≡ v4_text (drop 12 address)
last_four before address last v4 is dotted sixteen =
    let four : length v4 ≡ 4 = ap length dotted.value in
    let size : length before ≡ 12 = omega (arith, ap length is, length-append before v4, four) in
    let rest : drop 12 address ≡ v4 = ap (drop 12) is ∙ drop_at before v4 12 size in
    dotted.spelled ∙ dotted_is dotted.a dotted.b dotted.c dotted.d ∙ ap v4_text (sym dotted.value ∙ sym rest)

-- the digits of the last group
abbrev pub last_digits : List ℕ → List ℕ
last_digits address = digits 16 false (get_or address 14 0 * 256 + get_or address 15 0)

lacking : (word address : List ℕ) → length address ≡ 16 → 0 < get_or address 14 0 → Lacks Ignored (last_digits address) word → Lacks Counts (v4_text (drop 12 address)) word → Ending word address → ⊥
lacking word address sixteen some no_digits no_dots (in_hex front group before n spelled value hex) =
    let octets = last_two before address (n / 256) (n % 256) value sixteen in
    let ends = group_ends group n hex (omega (arith, octets.0, some)) in
    let same : get_or address 14 0 * 256 + get_or address 15 0 ≡ n = omega (arith, octets.0, octets.1) in
    let found : map to_ascii_lowercase ends.1 ≡ last_digits address = ends.3 ∙ ap (digits 16 false) (sym same) in
    let lower : map to_ascii_lowercase ends.1 ≡ map to_ascii_lowercase (last_digits address) = sym (all_lower_again ends.1) ∙ ap (map to_ascii_lowercase) found in
    at_end Ignored (last_digits address) word (front ++ ends.0) ends.1 (spelled ∙ ap (λ xs. front ++ xs) ends.2 ∙ sym (append_assoc front ends.0 ends.1)) ((bytes_eq-Decides (map to_ascii_lowercase ends.1) (map to_ascii_lowercase (last_digits address))).1 lower) no_digits
lacking word address sixteen some no_digits no_dots (in_dots front last before v4 spelled value dotted) =
    at_end Counts (v4_text (drop 12 address)) word front last spelled ((bytes_eq-Decides last (v4_text (drop 12 address))).1 (last_four before address last v4 value dotted sixteen)) no_dots
lacking word address sixteen some no_digits no_dots (in_zeros before value) = absurd (omega (arith, (last_two before address 0 0 value sixteen).0, some))

by_forms : (address : List ℕ) (v4 v6 : Option (List ℕ)) → length address ≡ 16 → IfSome v4 (λ found. length found ≡ 4) → ((found : List ℕ) → v6 ≡ Some found → found ≡ address → ⊥) → is_spelled address (spelled_in v4 v6) ≡ false
by_forms address None None sixteen four never = refl
by_forms address None (Some found) sixteen four never = false_from_ne_true (bytes_eq found address) (λ same. never found refl ((bytes_eq-Decides found address).0 same))
by_forms address (Some found) v6 sixteen four never = other_bytes found address 4 four (λ same. omega (arith, sixteen))

pub no_host_ending : (address line : List ℕ) → length address ≡ 16 → 0 < get_or address 14 0 → Lacks Ignored (last_digits address) line → Lacks Counts (v4_text (drop 12 address)) line → if_named (host_addressed address) (host_of_line line) ≡ None
no_host_ending address line sixteen some no_digits no_dots = by_words (words_of (before_remark line)) refl (words_lack Ignored (last_digits address) line no_digits) (words_lack Counts (v4_text (drop 12 address)) line no_dots)
  where
    by_words : (words : List (List ℕ)) → words_of (before_remark line) ≡ words → AllLack Ignored (last_digits address) words → AllLack Counts (v4_text (drop 12 address)) words → if_named (host_addressed address) (host_of_line line) ≡ None
    by_words [] is digits dots = wordless (host_addressed address) line is
    by_words (first ∷ others) is digits dots =
        unaddressed address line first others is (by_forms address (v4_of first) (v6_of first) sixteen (v4-length first) (λ found known same. lacking first address sixteen some digits.0 dots.0 (v6_ending first address (known ∙ ap Some same))))
