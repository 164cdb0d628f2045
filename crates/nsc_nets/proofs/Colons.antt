-- A line that lacks a colon has no entry of an IPv6 address.
use Rattle.std.proofs.Common.{◌≡◌, ◌≢◌, ℕ, ◌+◌, ◌-◌, false, ◌==◌, List, [], ◌∷◌, length, take, drop, get_or, Option, Some, None, IfSome, drop-cons, refl, ◌∙◌, ap, arith}
use Rattle.std.specs.List.{list_any}
use Rattle.std.specs.Net.Addr.{octets_of, segments_of}
use Rattle.std.specs.Option.{option_map, option_or}
use Rattle.std.proofs.lemmas.Bool.{eqb-true, false_from_ne_true}
use Rattle.std.proofs.lemmas.Slice.Eq.{bytes_eq-Decides}
use Rattle.nsc_base.specs.declared.search.Case.TheVariants.{Counts}
use Rattle.nsc_base.specs.Addresses.{around_pair, between_colons, exactly, group_of, groups_to_last, is_pair, v4_of, v6_groups, v6_of}
use Rattle.nsc_base.specs.Found.{Lacks}
use Rattle.nsc_base.specs.Text.{before_remark, words_of}
use Rattle.nsc_base.proofs.AddressLengths.{v4-length}
use Rattle.nsc_base.proofs.Pieces.{none_cuts, or_false, pieces-last}
use Rattle.nsc_model.specs.Entries.{if_named}
use Rattle.nsc_model.specs.Hosts.{host_addressed, host_of_line}
use Rattle.nsc_nets.proofs.Called.{unaddressed, wordless}
use Rattle.nsc_nets.proofs.Lacking.{AllLack, words_lack}
use Rattle.nsc_nets.proofs.Lengths.{is_spelled, other_bytes, spelled_in}

-- no byte is a colon
abbrev IsUncut : List ℕ → Type 0
IsUncut text = list_any (λ b. b == 58) text ≡ false

uncut : (text : List ℕ) → Lacks Counts (58 ∷ []) text → IsUncut text
uncut text lack = none_cuts (λ b. b == 58) text (λ k below.
    false_from_ne_true (get_or text k 0 == 58) (λ same.
    let one : k + 1 - k ≡ 1 = omega arith in
    let here : take (k + 1 - k) (drop k text) ≡ 58 ∷ [] = ap (λ n. take n (drop k text)) one ∙ ap (take 1) (drop-cons text k 0 below) ∙ ap (λ (b : ℕ). b ∷ []) (eqb-true (get_or text k 0) 58 same) in
    lack (record { from = k; to = k + 1 }) (record { ordered = omega arith; ends = omega arith; same = (bytes_eq-Decides (take (k + 1 - k) (drop k text)) (58 ∷ [])).1 here })))

-- so there are no two of them in a row
not_pair : (b : ℕ) (bytes : List ℕ) → (b == 58) ≡ false → is_pair b bytes ≡ false
not_pair b [] other = refl
not_pair b (c ∷ bytes) other = rw other refl

unpaired : (text : List ℕ) → IsUncut text → around_pair text ≡ None
unpaired [] none = refl
unpaired (b ∷ bytes) none =
    let parts = or_false (b == 58) (list_any (λ c. c == 58) bytes) none in
    rw (not_pair b bytes parts.0, unpaired bytes parts.1) refl

-- and what is between colons is the text: of one group, or of the two that an IPv4 address makes
two_segments : (octets : List ℕ) → length octets ≡ 4 → exactly 8 (Some (segments_of octets)) ≡ None
two_segments (a ∷ b ∷ c ∷ d ∷ []) four = refl
two_segments [] four = refl
two_segments (a ∷ []) four = refl
two_segments (a ∷ b ∷ []) four = refl
two_segments (a ∷ b ∷ c ∷ []) four = refl
two_segments (a ∷ b ∷ c ∷ d ∷ e ∷ rest) four = absurd (omega arith)

too_few : (group : Option ℕ) (v4 : Option (List ℕ)) → IfSome v4 (λ octets. length octets ≡ 4) → exactly 8 (option_or (option_map (λ n. n ∷ []) group) (option_map segments_of v4)) ≡ None
too_few (Some n) v4 four = refl
too_few None None four = refl
too_few None (Some octets) four = two_segments octets four

few_groups : (text : List ℕ) → IsUncut text → exactly 8 (groups_to_last (between_colons text)) ≡ None
few_groups [] none = refl
few_groups (b ∷ bytes) none =
    ap (λ (texts : List (List ℕ)). exactly 8 (groups_to_last texts)) (pieces-last (λ c. c == 58) (b ∷ bytes) none)
    ∙ too_few (group_of (b ∷ bytes)) (v4_of (b ∷ bytes)) (v4-length (b ∷ bytes))

no_v6 : (text : List ℕ) → IsUncut text → v6_of text ≡ None
no_v6 text none = ap (option_map octets_of) (ap (v6_groups text) (unpaired text none) ∙ few_groups text none)

by_forms : (address : List ℕ) (v4 v6 : Option (List ℕ)) → length address ≢ 4 → IfSome v4 (λ found. length found ≡ 4) → v6 ≡ None → is_spelled address (spelled_in v4 v6) ≡ false
by_forms address None None other four none = refl
by_forms address None (Some found) other four none = cc
by_forms address (Some found) v6 other four none = other_bytes found address 4 four other

pub no_host_addressed : (address line : List ℕ) → length address ≢ 4 → Lacks Counts (58 ∷ []) line → if_named (host_addressed address) (host_of_line line) ≡ None
no_host_addressed address line other lack = by_words (words_of (before_remark line)) refl (words_lack Counts (58 ∷ []) line lack)
  where
    by_words : (words : List (List ℕ)) → words_of (before_remark line) ≡ words → AllLack Counts (58 ∷ []) words → if_named (host_addressed address) (host_of_line line) ≡ None
    by_words [] is all = wordless (host_addressed address) line is
    by_words (first ∷ others) is all = unaddressed address line first others is (by_forms address (v4_of first) (v6_of first) other (v4-length first) (no_v6 first (uncut first all.0)))
