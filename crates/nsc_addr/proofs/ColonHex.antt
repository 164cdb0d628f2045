-- Texts of IPv6 addresses: what the definition reads is what the grammar spells.
use Rattle.std.proofs.Common.{◌≡◌, ℕ, ◌+◌, ◌-◌, ◌<◌, nat_lt, true, List, ◌∷◌, ◌++◌, length, replicate, codes, Option, Some, None, option_and_then, refl, sym, ◌∙◌, ap, inl, inr, arith, append_assoc}
use Rattle.std.specs.Option.{option_map}
use Rattle.std.specs.Net.Addr.{octets_of}
use Rattle.std.specs.Net.Grammar.{IsElided, IsColonHex}
use Rattle.std.proofs.lemmas.Bool.Decides.{nat_tests}
use Rattle.nsc_base.specs.Addresses.{each_spelled, group_of, groups_to_last, between_colons, around_pair, with_zeros, v6_groups, v6_of}
use Rattle.nsc_addr.proofs.Options.{then_some, map_some, if_some, exactly_some}
use Rattle.nsc_addr.proofs.Groups.{back_of_groups, front_of_groups, groups_of_back, groups_of_front}
use Rattle.nsc_addr.proofs.Pairs.{around_pair_none, around_pair_first, around_pair_is}

below_eight : (n : ℕ) → n < 8 → nat_lt n 8 ≡ true
below_eight n small = grind (arith, nat_tests)

has_room : (n : ℕ) → nat_lt n 8 ≡ true → n < 8
has_room n h = grind (arith, nat_tests)

groups_elided : (text segments : List ℕ) → IsElided text segments → v6_groups text (around_pair text) ≡ Some segments
groups_elided text segments elided =
    let spelled : text ≡ elided.head_text ++ 58 ∷ 58 ∷ elided.tail_text = elided.spelled ∙ append_assoc elided.head_text (codes "::") elided.tail_text in
    let pair : around_pair text ≡ Some (elided.head_text, elided.tail_text) = ap around_pair spelled ∙ around_pair_first elided.head elided.head_text elided.tail_text elided.head_groups in
    let front = front_of_groups elided.head elided.head_text elided.head_groups in
    let back = back_of_groups elided.tail elided.tail_text elided.tail_groups in
    let room = below_eight (length elided.head + length elided.tail) elided.room in
    ap (v6_groups text) pair ∙ rw (front, back, room) (ap Some (sym elided.value))

pub groups_of_colon_hex : (text segments : List ℕ) → IsColonHex text segments → v6_groups text (around_pair text) ≡ Some segments
groups_of_colon_hex text segments (inl plain) =
    let none = around_pair_none segments text plain.0 in
    let read = back_of_groups segments text plain.0 in
    ap (v6_groups text) none ∙ rw (read, plain.1) refl
groups_of_colon_hex text segments (inr elided) = groups_elided text segments elided

colon_hex_by : (text segments : List ℕ) (around : Option (List ℕ × List ℕ)) → around_pair text ≡ around → v6_groups text around ≡ Some segments → IsColonHex text segments
colon_hex_by text segments None is h =
    let found = exactly_some 8 (groups_to_last (between_colons text)) segments h in
    inl (groups_of_back text segments found.0, found.1)
colon_hex_by text segments (Some halves) is h =
    let front = then_some (λ head. option_and_then (with_zeros head) (groups_to_last (between_colons halves.1))) (each_spelled group_of (between_colons halves.0)) segments h in
    let back = then_some (with_zeros front.0) (groups_to_last (between_colons halves.1)) segments front.2 in
    let filled = if_some (nat_lt (length front.0 + length back.0) 8) (front.0 ++ replicate (8 - length front.0 - length back.0) 0 ++ back.0) segments back.2 in
    inr (record {
      head_text = halves.0;
      tail_text = halves.1;
      head = front.0;
      tail = back.0;
      spelled = around_pair_is text halves is ∙ sym (append_assoc halves.0 (codes "::") halves.1);
      head_groups = groups_of_front halves.0 front.0 front.1;
      tail_groups = groups_of_back halves.1 back.0 back.1;
      room = has_room (length front.0 + length back.0) filled.0;
      value = sym filled.1;
    })

pub v6_of_colon_hex : (text segments : List ℕ) → IsColonHex text segments → v6_of text ≡ Some (octets_of segments)
v6_of_colon_hex text segments spelled = ap (option_map octets_of) (groups_of_colon_hex text segments spelled)

pub colon_hex_of_v6 : (text octets : List ℕ) → v6_of text ≡ Some octets → (segments : List ℕ) × IsColonHex text segments × (octets_of segments ≡ octets)
colon_hex_of_v6 text octets h =
    let found = map_some octets_of (v6_groups text (around_pair text)) octets h in
    (found.0, colon_hex_by text found.0 (around_pair text) refl found.1, found.2)
