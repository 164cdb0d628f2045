-- What is printed is read as it was.
use Rattle.std.proofs.Common.{◌≡◌, ℕ, zero, suc, ◌+◌, ◌-◌, ◌*◌, ◌/◌, ◌%◌, ◌<◌, ◌≤◌, nat_lt, if◌then◌else◌, Bool, true, false, List, [], ◌∷◌, ◌++◌, length, take, drop, replicate, codes, Some, refl, sym, ◌∙◌, ap, ◌⊎◌, ⊎_elim, inl, inr, arith, append_assoc, length-drop}
use Rattle.std.specs.Prelude.{All}
use Rattle.std.specs.Fmt.{digits}
use Rattle.std.specs.Net.Addr.{segments_of, octets_of}
use Rattle.std.specs.Net.Grammar.{IsGroup, IsGroupsAfter, IsGroups, IsColonHex}
use Rattle.std.proofs.lemmas.List.{append-nil, length-take-le}
use Rattle.std.proofs.lemmas.List.Elements.{All-head, All-tail}
use Rattle.std.proofs.lemmas.Bool.{cases_order}
use Rattle.std.proofs.lemmas.Bool.Decides.{nat_tests}
use Rattle.std.proofs.lemmas.Fmt.{digits_is_IsNumeral}
use Rattle.nsc_base.specs.Addresses.{longest_run, colon_text, groups_text, v4_of, v4_text, v6_of, v6_text}
use Rattle.nsc_addr.proofs.Dotted.{AllOctets, v4_of-v4_text}
use Rattle.nsc_addr.proofs.ColonHex.{v6_of_colon_hex}
use Rattle.nsc_addr.proofs.Numerals.{below_0x10, below_0x100, below_0x1000, below_0x10000}
use Rattle.nsc_laws.proofs.ZeroRuns.{HasZeros, longest_is_run, around_zeros}

all_octets : (xs : List ℕ) → All (λ n. n < 256) xs → AllOctets xs
all_octets [] all = tt
all_octets (x ∷ xs) all = (All-head (λ n. n < 256) x xs all, all_octets xs (All-tail (λ n. n < 256) x xs all))

pub read-print_v4 : (address : List ℕ) → length address ≡ 4 → All (λ n. n < 256) address → v4_of (v4_text address) ≡ Some address
read-print_v4 address size all = v4_of-v4_text address size (all_octets address all)

-- each number is below 65536
abbrev AllGroups : List ℕ → Type 0
AllGroups [] = Unit {0}
AllGroups (n ∷ ns) = (n < 0x10000) × AllGroups ns

groups_take : (n : ℕ) (xs : List ℕ) → AllGroups xs → AllGroups (take n xs)
groups_take zero xs all = tt
groups_take (suc n) [] all = tt
groups_take (suc n) (x ∷ xs) all = (all.0, groups_take n xs all.1)

groups_drop : (n : ℕ) (xs : List ℕ) → AllGroups xs → AllGroups (drop n xs)
groups_drop zero xs all = all
groups_drop (suc n) [] all = tt
groups_drop (suc n) (x ∷ xs) all = groups_drop n xs all.1

below_or_from : (a b : ℕ) → (a < b) ⊎ (b ≤ a)
below_or_from a b = ⊎_elim {C = (a < b) ⊎ (b ≤ a)} (λ same. inr (omega arith)) (λ other. ⊎_elim {C = (a < b) ⊎ (b ≤ a)} (λ less. inl less) (λ more. inr (omega arith)) other) (cases_order a b)

-- a number of 16 bits has at most four hexadecimal digits
length-hex : (n : ℕ) → n < 0x10000 → length (digits 16 false n) ≤ 4
length-hex n small = by (below_or_from n 0x10) (below_or_from n 0x100) (below_or_from n 0x1000)
  where
    by : (n < 0x10) ⊎ (0x10 ≤ n) → (n < 0x100) ⊎ (0x100 ≤ n) → (n < 0x1000) ⊎ (0x1000 ≤ n) → length (digits 16 false n) ≤ 4
    by (inl one) b c = omega (arith, ap length (below_0x10 n 3 one refl))
    by (inr a) (inl two) c = omega (arith, ap length (below_0x100 n 2 a two refl))
    by (inr a) (inr b) (inl three) = omega (arith, ap length (below_0x1000 n 1 b three refl))
    by (inr a) (inr b) (inr c) = omega (arith, ap length (below_0x10000 n 0 c small refl))

printed_group : (n : ℕ) → n < 0x10000 → IsGroup (digits 16 false n) n
printed_group n small = (digits_is_IsNumeral 16 false (omega arith) (omega arith) n (omega arith), length-hex n small)

printed_after : (ipv4 : Bool) (lead : List ℕ) (n : ℕ) (ns : List ℕ) → AllGroups (n ∷ ns) → IsGroupsAfter ipv4 lead (lead ++ colon_text (n ∷ ns)) (n ∷ ns)
printed_after ipv4 lead n [] all = inl (digits 16 false n, [], sym (append-nil (lead ++ digits 16 false n)), printed_group n all.0, refl)
printed_after ipv4 lead n (m ∷ ms) all =
    inl (digits 16 false n, 58 ∷ colon_text (m ∷ ms), sym (append_assoc lead (digits 16 false n) (58 ∷ colon_text (m ∷ ms))), printed_group n all.0, printed_after ipv4 (codes ":") m ms all.1)

printed_groups : (ipv4 : Bool) (ns : List ℕ) → AllGroups ns → IsGroups ipv4 (colon_text ns) ns
printed_groups ipv4 [] all = refl
printed_groups ipv4 (n ∷ ns) all = printed_after ipv4 [] n ns all

not_short : (n : ℕ) → nat_lt n 2 ≡ false → 2 ≤ n
not_short n h = grind (arith, nat_tests)

printed_colon_hex : (groups : List ℕ) (before count : ℕ) → length groups ≡ 8 → AllGroups groups → HasZeros groups before count
    → IsColonHex (groups_text groups (record { before = before; count = count })) groups
printed_colon_hex groups before count size all run = by (nat_lt count 2) refl
  where
    by : (test : Bool) → nat_lt count 2 ≡ test
        → IsColonHex (if test then colon_text groups else colon_text (take before groups) ++ 58 ∷ 58 ∷ colon_text (drop (before + count) groups)) groups
    by true e = inl (printed_groups true groups all, size)
    by false e =
        let some : 2 ≤ count = not_short count e in
        let front : length (take before groups) ≡ before = length-take-le before groups (omega (arith, run.within)) in
        let back : length (drop (before + count) groups) ≡ 8 - (before + count) = length-drop (before + count) groups ∙ ap (λ n. n - (before + count)) size in
        let zeros : count ≡ 8 - length (take before groups) - length (drop (before + count) groups) = omega (arith, front, back, run.within) in
        inr (record {
          head_text = colon_text (take before groups);
          tail_text = colon_text (drop (before + count) groups);
          head = take before groups;
          tail = drop (before + count) groups;
          spelled = sym (append_assoc (colon_text (take before groups)) (codes "::") (colon_text (drop (before + count) groups)));
          head_groups = printed_groups false (take before groups) (groups_take before groups all);
          tail_groups = printed_groups true (drop (before + count) groups) (groups_drop (before + count) groups all);
          room = omega (arith, front, back, run.within);
          value = around_zeros groups before count run ∙ ap (λ n. take before groups ++ (replicate n 0 ++ drop (before + count) groups)) zeros
              ∙ sym (append_assoc (take before groups) (replicate (8 - length (take before groups) - length (drop (before + count) groups)) 0) (drop (before + count) groups));
        })

record Pairs (octets : List ℕ) (count : ℕ) : Type 0 where
  size : length (segments_of octets) ≡ count
  small : AllGroups (segments_of octets)
  back : octets_of (segments_of octets) ≡ octets

octet_pairs : (count : ℕ) (octets : List ℕ) → length octets ≡ 2 * count → AllOctets octets → Pairs octets count
octet_pairs zero [] size all = record { size = refl; small = tt; back = refl }
octet_pairs zero (a ∷ octets) size all = absurd (omega arith)
octet_pairs (suc count) [] size all = absurd (omega arith)
octet_pairs (suc count) (a ∷ []) size all = absurd (omega arith)
octet_pairs (suc count) (a ∷ b ∷ octets) size all =
    let later = octet_pairs count octets (omega arith) all.1.1 in
    let high : (a * 256 + b) / 256 ≡ a = omega (arith, all.0, all.1.0) in
    let low : (a * 256 + b) % 256 ≡ b = omega (arith, all.0, all.1.0) in
    record {
      size = ap suc later.size;
      small = (omega (arith, all.0, all.1.0), later.small);
      back = λ i. high i ∷ low i ∷ later.back i;
    }

pub read-print_v6 : (address : List ℕ) → length address ≡ 16 → All (λ n. n < 256) address → v6_of (v6_text address) ≡ Some address
read-print_v6 address size all =
    let pairs = octet_pairs 8 address size (all_octets address all) in
    let groups = segments_of address in
    let run = longest_run groups in
    let printed = printed_colon_hex groups run.before run.count pairs.size pairs.small (longest_is_run groups) in
    v6_of_colon_hex (v6_text address) groups printed ∙ ap Some pairs.back
