-- What spells an address of one length spells none of the other.
use Rattle.std.proofs.Common.{◌≡◌, ◌≢◌, ℕ, Bool, true, false, ◌&&◌, List, length, Option, Some, None, IfSome, refl, sym, ◌∙◌, ap, arith}
use Rattle.std.specs.Option.{is_none, option_map, option_map_or, option_or}
use Rattle.std.specs.Str.{bytes_eq}
use Rattle.std.proofs.lemmas.Bool.{false_from_ne_true}
use Rattle.std.proofs.lemmas.Slice.Eq.{bytes_eq-Decides}
use Rattle.nsc_base.specs.Addresses.{v4_of, v6_of}
use Rattle.nsc_base.proofs.AddressLengths.{v4-length, v6-length}
use Rattle.nsc_model.specs.Hosts.{Addressed, addressed_of}

-- whether an address is the one that is wanted
abbrev pub is_spelled : List ℕ → Option Addressed → Bool
is_spelled address o = option_map_or (λ (a : Addressed). bytes_eq a.address address) o false

pub other_bytes : (found address : List ℕ) (n : ℕ) → length found ≡ n → length address ≢ n → bytes_eq found address ≡ false
other_bytes found address n size other =
    false_from_ne_true (bytes_eq found address) (λ same. other (sym (ap length ((bytes_eq-Decides found address).0 same)) ∙ size))

-- of the two forms, the first that is spelled
abbrev pub spelled_in : Option (List ℕ) → Option (List ℕ) → Option Addressed
spelled_in v4 v6 = option_or (option_map (λ a. record { family = 2; address = a }) v4) (option_map (λ a. record { family = 10; address = a }) v6)

other_length : (o : Option (List ℕ)) (address : List ℕ) → IfSome o (λ found. length found ≡ 16) → length address ≢ 16 → is_spelled address (spelled_in None o) ≡ false
other_length None address sixteen other = refl
other_length (Some found) address sixteen other = other_bytes found address 16 sixteen other

pub not_v6 : (text address : List ℕ) → None ≡ v4_of text → length address ≢ 16 → false ≡ is_spelled address (addressed_of text)
not_v6 text address no_v4 other =
    sym (other_length (v6_of text) address (v6-length text) other)
    ∙ ap (λ o. is_spelled address (spelled_in o (v6_of text))) no_v4

-- an address of sixteen bytes is spelled in the form of IPv6, by what is none of IPv4
abbrev only_v6 : List ℕ → Option (List ℕ) → Option (List ℕ) → Bool
only_v6 address v4 v6 = option_map_or (λ a. bytes_eq a address) v6 false && is_none v4

sixteen : (v4 v6 : Option (List ℕ)) (address : List ℕ) → IfSome v4 (λ found. length found ≡ 4) → length address ≡ 16 → only_v6 address v4 v6 ≡ is_spelled address (spelled_in v4 v6)
sixteen None None address four long = refl
sixteen None (Some found) address four long =
    elim (bytes_eq found address) as (λ v. (v && true) ≡ v) [
      | true ↦ refl
      | false ↦ refl
    ]
sixteen (Some found) None address four long = sym (other_bytes found address 4 four (λ same. omega (arith, long)))
sixteen (Some found) (Some other) address four long =
    let never : bytes_eq found address ≡ false = other_bytes found address 4 four (λ same. omega (arith, long)) in
    elim (bytes_eq other address) as (λ v. (v && is_none (Some found)) ≡ bytes_eq found address) [
      | true ↦ sym never
      | false ↦ sym never
    ]

pub by_v6 : (text address : List ℕ) → length address ≡ 16 → only_v6 address (v4_of text) (v6_of text) ≡ is_spelled address (addressed_of text)
by_v6 text address long = sixteen (v4_of text) (v6_of text) address (v4-length text) long
