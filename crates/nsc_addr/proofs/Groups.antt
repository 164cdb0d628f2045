-- Groups with colons between them: what the definitions read is what the grammar spells.
use Rattle.std.proofs.Common.{◌≡◌, ℕ, ◌<◌, ◌≤◌, ◌==◌, ◌&&◌, ◌⊎◌, nat_lt, Bool, true, false, List, [], ◌∷◌, ◌++◌, length, codes, Some, None, option_and_then, refl, sym, ◌∙◌, ap, subst, inl, inr, arith, append_assoc, length-append}
use Rattle.std.specs.List.{list_all, join_with_byte}
use Rattle.std.specs.Option.{option_map}
use Rattle.std.specs.Char.{digit_value, is_ascii_hexdigit}
use Rattle.std.specs.Str.Parse.{AllDigits, digits_value}
use Rattle.std.specs.Net.Addr.{segments_of}
use Rattle.std.specs.Net.Grammar.{IsDotted, IsGroup, IsGroupsAfter, IsGroups}
use Rattle.std.proofs.lemmas.List.{append-nil}
use Rattle.std.proofs.lemmas.List.Folds.{list_all-append}
use Rattle.std.proofs.lemmas.Bool.Decides.{nat_tests}
use Rattle.nsc_base.specs.Text.{fields_of, is_filled}
use Rattle.nsc_base.specs.Addresses.{each_spelled, is_group, group_of, last_of, groups_to_last, between_colons, v4_of}
use Rattle.nsc_base.proofs.Pieces.{pieces-some}
use Rattle.nsc_addr.proofs.Fields.{IsUncut, fields-last, fields-first, join-fields}
use Rattle.nsc_addr.proofs.Options.{then_some, map_some, or_some, if_some, both_true, each_some}
use Rattle.nsc_addr.proofs.Dotted.{v4_of_dotted, dotted_of_v4, dotted_front, dotted_uncut, dotted_octets}

-- ---- one group

hex_of_value : (c : ℕ) → digit_value c < 16 → is_ascii_hexdigit c ≡ true
hex_of_value c small = grind (arith, nat_tests)

value_of_hex : (c : ℕ) → is_ascii_hexdigit c ≡ true → digit_value c < 16
value_of_hex c h = grind (arith, nat_tests)

no_colon_in : (c : ℕ) → digit_value c < 16 → (c == 58) ≡ false
no_colon_in c small = grind (arith, nat_tests)

all_hex : (text : List ℕ) → AllDigits 16 text → list_all is_ascii_hexdigit text ≡ true
all_hex [] all = refl
all_hex (c ∷ cs) all = rw (hex_of_value c all.0) (all_hex cs all.1)

all_digits : (text : List ℕ) → list_all is_ascii_hexdigit text ≡ true → AllDigits 16 text
all_digits [] h = tt
all_digits (c ∷ cs) h =
    let parts = both_true (is_ascii_hexdigit c) (list_all is_ascii_hexdigit cs) h in
    (value_of_hex c parts.0, all_digits cs parts.1)

is_filled_text : (text : List ℕ) → 0 < length text → is_filled text ≡ true
is_filled_text [] some = absurd (omega arith)
is_filled_text (c ∷ cs) some = refl

filled_length : (text : List ℕ) → is_filled text ≡ true → 0 < length text
filled_length [] h = cc
filled_length (c ∷ cs) h = omega arith

below_five : (n : ℕ) → n ≤ 4 → nat_lt n 5 ≡ true
below_five n small = grind (arith, nat_tests)

up_to_four : (n : ℕ) → nat_lt n 5 ≡ true → n ≤ 4
up_to_four n h = grind (arith, nat_tests)

pub group_of_group : (text : List ℕ) (n : ℕ) → IsGroup text n → group_of text ≡ Some n
group_of_group text n group =
    let value : digits_value 16 text ≡ n = group.0.1 in
    rw (is_filled_text text group.0.0.0, below_five (length text) group.1, all_hex text group.0.0.1) (ap Some value)

group_is : (text : List ℕ) (n : ℕ) → group_of text ≡ Some n → IsGroup text n
group_is text n h =
    let found = if_some (is_group text) (digits_value 16 text) n h in
    let tests = both_true (is_filled text && nat_lt (length text) 5) (list_all is_ascii_hexdigit text) found.0 in
    let sizes = both_true (is_filled text) (nat_lt (length text) 5) tests.0 in
    (((filled_length text sizes.0, all_digits text tests.1), found.1), up_to_four (length text) sizes.1)

digits_uncut : (text : List ℕ) → AllDigits 16 text → IsUncut 58 text
digits_uncut [] all = refl
digits_uncut (c ∷ cs) all = rw (no_colon_in c all.0) (digits_uncut cs all.1)

pub group_uncut : (text : List ℕ) (n : ℕ) → IsGroup text n → IsUncut 58 text
group_uncut text n group = digits_uncut text group.0.0.1

and_false : (b : Bool) → (b && false) ≡ false
and_false true = refl
and_false false = refl

-- a text with a dot is no group
dotted_no_group : (text octets : List ℕ) → IsDotted text octets → group_of text ≡ None
dotted_no_group text octets dotted =
    let parts = dotted_front text octets dotted in
    let all : list_all is_ascii_hexdigit text ≡ false =
    ap (list_all is_ascii_hexdigit) parts.2 ∙ list_all-append is_ascii_hexdigit parts.0 (46 ∷ parts.1) ∙ and_false (list_all is_ascii_hexdigit parts.0) in
    rw (all, and_false (is_filled text && nat_lt (length text) 5)) refl

last_group : (text : List ℕ) (n : ℕ) → IsGroup text n → last_of text ≡ Some (n ∷ [])
last_group text n group = rw (group_of_group text n group) refl

last_dotted : (text octets : List ℕ) → IsDotted text octets → last_of text ≡ Some (segments_of octets)
last_dotted text octets dotted = rw (dotted_no_group text octets dotted, v4_of_dotted text octets dotted) refl

-- ---- from the grammar

back_onto : (group : List ℕ) (n : ℕ) (rest ns : List ℕ) → IsGroup group n → groups_to_last (fields_of 58 rest) ≡ Some ns → groups_to_last (group ∷ fields_of 58 rest) ≡ Some (n ∷ ns)
back_onto group n rest ns is h =
    let some = pieces-some (λ b. b == 58) rest in
    let later : groups_to_last (some.0 ∷ some.1.0) ≡ Some ns = ap groups_to_last (sym some.1.1) ∙ h in
    ap (λ fields. groups_to_last (group ∷ fields)) some.1.1 ∙ rw (group_of_group group n is, later) refl

back : (segments text : List ℕ) → IsGroupsAfter true (codes ":") text segments → (group : List ℕ) (n : ℕ) → IsGroup group n → groups_to_last (fields_of 58 (group ++ text)) ≡ Some (n ∷ segments)
back [] text empty group n is =
    let whole : group ++ text ≡ group = ap (λ ys. group ++ ys) empty ∙ append-nil group in
    ap (λ ys. groups_to_last (fields_of 58 ys)) whole ∙ ap groups_to_last (fields-last 58 group (group_uncut group n is)) ∙ last_group group n is
back (s ∷ segments) text (inl more) group n is =
    let later = back segments more.1 more.4 more.0 s more.3 in
    let cut = fields-first 58 group (more.0 ++ more.1) (group_uncut group n is) in
    ap (λ ys. groups_to_last (fields_of 58 (group ++ ys))) more.2 ∙ ap groups_to_last cut ∙ back_onto group n (more.0 ++ more.1) (s ∷ segments) is later
back (s ∷ segments) text (inr last) group n is =
    let cut = fields-first 58 group last.0 (group_uncut group n is) in
    let one = fields-last 58 last.0 (dotted_uncut last.0 last.1 last.4) in
    let later : groups_to_last (fields_of 58 last.0) ≡ Some (s ∷ segments) = ap groups_to_last one ∙ last_dotted last.0 last.1 last.4 ∙ ap Some (sym last.5) in
    ap (λ ys. groups_to_last (fields_of 58 (group ++ ys))) last.3 ∙ ap groups_to_last cut ∙ back_onto group n last.0 (s ∷ segments) is later

front : (segments text : List ℕ) → IsGroupsAfter false (codes ":") text segments → (group : List ℕ) (n : ℕ) → IsGroup group n → each_spelled group_of (fields_of 58 (group ++ text)) ≡ Some (n ∷ segments)
front [] text empty group n is =
    let whole : group ++ text ≡ group = ap (λ ys. group ++ ys) empty ∙ append-nil group in
    ap (λ ys. each_spelled group_of (fields_of 58 ys)) whole ∙ ap (each_spelled group_of) (fields-last 58 group (group_uncut group n is)) ∙ rw (group_of_group group n is) refl
front (s ∷ segments) text (inl more) group n is =
    let later = front segments more.1 more.4 more.0 s more.3 in
    let cut = fields-first 58 group (more.0 ++ more.1) (group_uncut group n is) in
    ap (λ ys. each_spelled group_of (fields_of 58 (group ++ ys))) more.2 ∙ ap (each_spelled group_of) cut ∙ rw (group_of_group group n is, later) refl
front (s ∷ segments) text (inr last) group n is = let never : false ≡ true = last.2 in cc

between-filled : (text : List ℕ) → 0 < length text → between_colons text ≡ fields_of 58 text
between-filled [] some = absurd (omega arith)
between-filled (b ∷ bytes) some = refl

group_length : (group rest : List ℕ) (n : ℕ) → IsGroup group n → 0 < length (group ++ rest)
group_length group rest n is = omega (arith, length-append group rest, is.0.0.0)

pub dotted_length : (text octets : List ℕ) → IsDotted text octets → 0 < length text
dotted_length text octets dotted =
    let parts = dotted_front text octets dotted in
    omega (arith, ap length parts.2, length-append parts.0 (46 ∷ parts.1))

pub back_of_groups : (segments text : List ℕ) → IsGroups true text segments → groups_to_last (between_colons text) ≡ Some segments
back_of_groups [] text empty = ap (λ ys. groups_to_last (between_colons ys)) empty
back_of_groups (s ∷ segments) text (inl more) =
    ap (λ ys. groups_to_last (between_colons ys)) more.2 ∙ ap groups_to_last (between-filled (more.0 ++ more.1) (group_length more.0 more.1 s more.3)) ∙ back segments more.1 more.4 more.0 s more.3
back_of_groups (s ∷ segments) text (inr last) =
    let one = fields-last 58 last.0 (dotted_uncut last.0 last.1 last.4) in
    ap (λ ys. groups_to_last (between_colons ys)) last.3 ∙ ap groups_to_last (between-filled last.0 (dotted_length last.0 last.1 last.4) ∙ one) ∙ last_dotted last.0 last.1 last.4 ∙ ap Some (sym last.5)

pub front_of_groups : (segments text : List ℕ) → IsGroups false text segments → each_spelled group_of (between_colons text) ≡ Some segments
front_of_groups [] text empty = ap (λ ys. each_spelled group_of (between_colons ys)) empty
front_of_groups (s ∷ segments) text (inl more) =
    ap (λ ys. each_spelled group_of (between_colons ys)) more.2 ∙ ap (each_spelled group_of) (between-filled (more.0 ++ more.1) (group_length more.0 more.1 s more.3)) ∙ front segments more.1 more.4 more.0 s more.3
front_of_groups (s ∷ segments) text (inr last) = let never : false ≡ true = last.2 in cc

-- ---- to the grammar

to_back : (fields : List (List ℕ)) (field lead segments : List ℕ) → groups_to_last (field ∷ fields) ≡ Some segments → IsGroupsAfter true lead (lead ++ join_with_byte 58 (field ∷ fields)) segments
to_back [] field lead segments h = by (or_some (option_map (λ n. n ∷ []) (group_of field)) (option_map segments_of (v4_of field)) segments h)
  where
    by : (option_map (λ n. n ∷ []) (group_of field) ≡ Some segments) ⊎ ((option_map (λ n. n ∷ []) (group_of field) ≡ None) × (option_map segments_of (v4_of field) ≡ Some segments)) → IsGroupsAfter true lead (lead ++ field) segments
    by (inl e) =
        let found = map_some (λ n. n ∷ []) (group_of field) segments e in
        subst (λ (ns : List ℕ). IsGroupsAfter true lead (lead ++ field) ns) found.2 (inl (field, [], sym (append-nil (lead ++ field)), group_is field found.0 found.1, refl))
    by (inr e) =
        let found = map_some segments_of (v4_of field) segments e.1 in
        let dotted = dotted_of_v4 field found.0 found.1 in
        let octets = dotted_octets field found.0 dotted in
        let value : segments_of (octets.0 ∷ octets.1 ∷ octets.2 ∷ octets.3 ∷ []) ≡ segments = ap segments_of (sym octets.4) ∙ found.2 in
        subst (λ (ns : List ℕ). IsGroupsAfter true lead (lead ++ field) ns) value (inr (field, found.0, refl, refl, dotted, ap segments_of (sym octets.4)))
to_back (next ∷ fields) field lead segments h =
    let found = then_some (λ n. option_and_then (λ others. Some (n ∷ others)) (groups_to_last (next ∷ fields))) (group_of field) segments h in
    let later = then_some (λ others. Some (found.0 ∷ others)) (groups_to_last (next ∷ fields)) segments found.2 in
    let value : found.0 ∷ later.0 ≡ segments = cc in
    let rest : List ℕ = 58 ∷ join_with_byte 58 (next ∷ fields) in
    subst (λ (ns : List ℕ). IsGroupsAfter true lead (lead ++ (field ++ rest)) ns) value
    (inl (field, rest, sym (append_assoc lead field rest), group_is field found.0 found.1, to_back fields next (codes ":") later.0 later.1))

to_front : (fields : List (List ℕ)) (field lead segments : List ℕ) → each_spelled group_of (field ∷ fields) ≡ Some segments → IsGroupsAfter false lead (lead ++ join_with_byte 58 (field ∷ fields)) segments
to_front [] field lead segments h =
    let found = each_some group_of field [] segments h in
    let none : [] ≡ found.1 = cc in
    let value : found.0 ∷ [] ≡ segments = ap (λ ns. found.0 ∷ ns) none ∙ found.4 in
    subst (λ (ns : List ℕ). IsGroupsAfter false lead (lead ++ field) ns) value (inl (field, [], sym (append-nil (lead ++ field)), group_is field found.0 found.2, refl))
to_front (next ∷ fields) field lead segments h =
    let found = each_some group_of field (next ∷ fields) segments h in
    let rest : List ℕ = 58 ∷ join_with_byte 58 (next ∷ fields) in
    subst (λ (ns : List ℕ). IsGroupsAfter false lead (lead ++ (field ++ rest)) ns) found.4
    (inl (field, rest, sym (append_assoc lead field rest), group_is field found.0 found.2, to_front fields next (codes ":") found.1 found.3))

pub groups_of_back : (text segments : List ℕ) → groups_to_last (between_colons text) ≡ Some segments → IsGroups true text segments
groups_of_back [] [] h = refl
groups_of_back [] (s ∷ segments) h = cc
groups_of_back (b ∷ bytes) segments h =
    let some = pieces-some (λ c. c == 58) (b ∷ bytes) in
    let joined : join_with_byte 58 (some.0 ∷ some.1.0) ≡ b ∷ bytes = ap (join_with_byte 58) (sym some.1.1) ∙ join-fields 58 (b ∷ bytes) in
    let read : groups_to_last (some.0 ∷ some.1.0) ≡ Some segments = ap groups_to_last (sym some.1.1) ∙ h in
    subst (λ (t : List ℕ). IsGroups true t segments) joined (to_back some.1.0 some.0 [] segments read)

pub groups_of_front : (text segments : List ℕ) → each_spelled group_of (between_colons text) ≡ Some segments → IsGroups false text segments
groups_of_front [] [] h = refl
groups_of_front [] (s ∷ segments) h = cc
groups_of_front (b ∷ bytes) segments h =
    let some = pieces-some (λ c. c == 58) (b ∷ bytes) in
    let joined : join_with_byte 58 (some.0 ∷ some.1.0) ≡ b ∷ bytes = ap (join_with_byte 58) (sym some.1.1) ∙ join-fields 58 (b ∷ bytes) in
    let read : each_spelled group_of (some.0 ∷ some.1.0) ≡ Some segments = ap (each_spelled group_of) (sym some.1.1) ∙ h in
    subst (λ (t : List ℕ). IsGroups false t segments) joined (to_front some.1.0 some.0 [] segments read)
