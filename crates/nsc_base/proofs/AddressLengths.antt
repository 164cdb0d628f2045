-- How many bytes an address has that a text spells: four of IPv4, sixteen of IPv6.
use Rattle.std.proofs.Common.{◌≡◌, ℕ, ◌+◌, ◌-◌, ◌*◌, ◌<◌, nat_eq, nat_lt, List, [], ◌∷◌, ◌++◌, length, replicate, Option, Some, None, IfSome, refl, arith, length-append}
use Rattle.std.specs.Option.{option_and_then}
use Rattle.std.specs.Net.Addr.{octets_of}
use Rattle.std.proofs.lemmas.List.{length-replicate}
use Rattle.std.proofs.lemmas.Bool.Decides.{Decides-eqb, Decides-ltb}
use Rattle.std.proofs.lemmas.Option.{IfSome_then}
use Rattle.nsc_base.specs.Addresses.{around_pair, between_colons, each_spelled, exactly, group_of, groups_to_last, octet_of, v4_of, v6_groups, v6_of, with_zeros}
use Rattle.nsc_base.specs.Text.{fields_of}
use Rattle.nsc_base.proofs.Options.{map_keeps, when_true}

-- `n` numbers, if there are any
abbrev HasLength : ℕ → Option (List ℕ) → Type 0
HasLength n o = IfSome o (λ numbers. length numbers ≡ n)

exactly-length : (n : ℕ) (o : Option (List ℕ)) → HasLength n (exactly n o)
exactly-length n None = tt
exactly-length n (Some numbers) = when_true (λ (found : List ℕ). length found ≡ n) (nat_eq (length numbers) n) numbers (λ is. (Decides-eqb (length numbers) n).0 is)

pub v4-length : (text : List ℕ) → IfSome (v4_of text) (λ address. length address ≡ 4)
v4-length text = exactly-length 4 (each_spelled octet_of (fields_of 46 text))

zeros-length : (front back : List ℕ) → length front + length back < 8 → length (front ++ replicate (8 - length front - length back) 0 ++ back) ≡ 8
zeros-length front back few =
    let zeros : List ℕ = replicate (8 - length front - length back) 0 in
    omega (arith, length-append (front ++ zeros) back, length-append front zeros, length-replicate {A = ℕ} (8 - length front - length back) 0)

with_zeros-length : (front back : List ℕ) → HasLength 8 (with_zeros front back)
with_zeros-length front back =
    when_true (λ (groups : List ℕ). length groups ≡ 8) (nat_lt (length front + length back) 8) (front ++ replicate (8 - length front - length back) 0 ++ back)
    (λ few. zeros-length front back ((Decides-ltb (length front + length back) 8).0 few))

halves-length : (front back : Option (List ℕ)) → HasLength 8 (option_and_then (λ f. option_and_then (λ b. with_zeros f b) back) front)
halves-length None back = tt
halves-length (Some front) None = tt
halves-length (Some front) (Some back) = with_zeros-length front back

groups-length : (text : List ℕ) (halves : Option (List ℕ × List ℕ)) → HasLength 8 (v6_groups text halves)
groups-length text None = exactly-length 8 (groups_to_last (between_colons text))
groups-length text (Some halves) = halves-length (each_spelled group_of (between_colons halves.0)) (groups_to_last (between_colons halves.1))

octets-length : (groups : List ℕ) → length (octets_of groups) ≡ 2 * length groups
octets-length [] = refl
octets-length (group ∷ groups) = omega (arith, octets-length groups)

pub v6-length : (text : List ℕ) → IfSome (v6_of text) (λ address. length address ≡ 16)
v6-length text =
    let groups = v6_groups text (around_pair text) in
    map_keeps (λ (address : List ℕ). length address ≡ 16) octets_of groups (IfSome_then groups (groups-length text (around_pair text)) (λ found eight. omega (arith, octets-length found, eight)))
