-- Hosts of a name or an address, from the words of their lines.
use Rattle.std.proofs.Common.{◌≡◌, ℕ, Bool, true, false, ◌&&◌, if◌then◌else◌, List, [], ◌∷◌, Option, Some, None, refl, sym, ◌∙◌, ap}
use Rattle.std.specs.List.{list_any}
use Rattle.std.specs.Option.{option_map, option_map_or}
use Rattle.std.specs.Str.{bytes_eq}
use Rattle.nsc_base.specs.Text.{before_remark, words_of}
use Rattle.nsc_model.specs.declared.row.Host.{Host}
use Rattle.nsc_model.specs.Entries.{if_named}
use Rattle.nsc_model.specs.Hosts.{Addressed, addressed_of, host_addressed, host_has_name, host_of_line, host_of_words}
use Rattle.nsc_model.specs.Users.{has_zero}
use Rattle.nsc_base.specs.declared.search.Case.TheVariants.{Ignored}
use Rattle.nsc_nets.specs.Hosts.{host_of_formed, host_with}
use Rattle.nsc_base.specs.Found.{same_by}
use Rattle.nsc_base.specs.Words.{TwoWords, two_of}
use Rattle.nsc_nets.proofs.Formed.{host_is}

-- two tests are one after the other
pub if_named-both : (other names : Host → Bool) (o : Option Host) → if_named (λ h. other h && names h) o ≡ if_named other (if_named names o)
if_named-both other names None = refl
if_named-both other names (Some h) =
    elim (other h) as (λ v. other h ≡ v → (if v && names h then Some h else None) ≡ if_named other (if names h then Some h else None)) [
      | true ↦ λ is.
          elim (names h) as (λ n. (if n then Some h else None) ≡ if_named other (if n then Some h else None)) [
            | true ↦ rw is refl
            | false ↦ refl
          ]
      | false ↦ λ is.
          elim (names h) as (λ n. None ≡ if_named other (if n then Some h else None)) [
            | true ↦ rw is refl
            | false ↦ refl
          ]
    ] refl

pub if_named-yes : (names : Host → Bool) (h : Host) → names h ≡ true → if_named names (Some h) ≡ Some h
if_named-yes names h is = rw is refl

pub if_named-no : (names : Host → Bool) (h : Host) → names h ≡ false → if_named names (Some h) ≡ None
if_named-no names h is = rw is refl

-- of the words of a line that is spoiled or not, with an address or none
none_named : (names : Host → Bool) (two : TwoWords) (spoiled : Bool) (o : Option Addressed) → ((a : Addressed) → o ≡ Some a → names (host_with two a) ≡ false) → if_named names (if spoiled then None else option_map (host_with two) o) ≡ None
none_named names two true o fails = refl
none_named names two false None fails = refl
none_named names two false (Some a) fails = if_named-no names (host_with two a) (fails a refl)

all_named : (names : Host → Bool) (two : TwoWords) (spoiled : Bool) (o : Option Addressed) → ((a : Addressed) → o ≡ Some a → names (host_with two a) ≡ true) → if_named names (if spoiled then None else option_map (host_with two) o) ≡ (if spoiled then None else option_map (host_with two) o)
all_named names two true o passes = refl
all_named names two false None passes = refl
all_named names two false (Some a) passes = if_named-yes names (host_with two a) (passes a refl)

line_fails : (names : Host → Bool) (line : List ℕ) (two : TwoWords) → Some two ≡ two_of (words_of (before_remark line)) → ((a : Addressed) → addressed_of two.first ≡ Some a → names (host_with two a) ≡ false) → if_named names (host_of_line line) ≡ None
line_fails names line two is fails = ap (if_named names) (sym (host_is line two is)) ∙ none_named names two (has_zero line) (addressed_of two.first) fails

line_passes : (names : Host → Bool) (line : List ℕ) (two : TwoWords) → Some two ≡ two_of (words_of (before_remark line)) → ((a : Addressed) → addressed_of two.first ≡ Some a → names (host_with two a) ≡ true) → if_named names (host_of_line line) ≡ host_of_formed line two
line_passes names line two is passes = ap (if_named names) (sym (host_is line two is)) ∙ all_named names two (has_zero line) (addressed_of two.first) passes

-- by its names
pub uncalled : (name line : List ℕ) (two : TwoWords) → Some two ≡ two_of (words_of (before_remark line)) → list_any (λ n. same_by Ignored n name) (two.second ∷ two.others) ≡ false → if_named (host_has_name name) (host_of_line line) ≡ None
uncalled name line two is lacks = line_fails (host_has_name name) line two is (λ a spelled. lacks)

pub called : (name line : List ℕ) (two : TwoWords) → Some two ≡ two_of (words_of (before_remark line)) → list_any (λ n. same_by Ignored n name) (two.second ∷ two.others) ≡ true → if_named (host_has_name name) (host_of_line line) ≡ host_of_formed line two
called name line two is has = line_passes (host_has_name name) line two is (λ a spelled. has)

-- by its address
none_spoiled : (names : Host → Bool) (spoiled : Bool) → if_named names (if spoiled then None else None) ≡ None
none_spoiled names true = refl
none_spoiled names false = refl

same_address : (address : List ℕ) (o : Option Addressed) (a : Addressed) → o ≡ Some a → bytes_eq a.address address ≡ option_map_or (λ (b : Addressed). bytes_eq b.address address) o false
same_address address None a h = cc
same_address address (Some b) a h =
    let same : a ≡ b = cc in
    ap (λ (x : Addressed). bytes_eq x.address address) same

pub wordless : (names : Host → Bool) (line : List ℕ) → words_of (before_remark line) ≡ [] → if_named names (host_of_line line) ≡ None
wordless names line none =
    ap (λ (words : List (List ℕ)). if_named names (if has_zero line then None else host_of_words words)) none ∙ none_spoiled names (has_zero line)

pub unaddressed : (address line first : List ℕ) (others : List (List ℕ)) → words_of (before_remark line) ≡ first ∷ others → option_map_or (λ (a : Addressed). bytes_eq a.address address) (addressed_of first) false ≡ false → if_named (host_addressed address) (host_of_line line) ≡ None
unaddressed address line first [] is other =
    ap (λ (words : List (List ℕ)). if_named (host_addressed address) (if has_zero line then None else host_of_words words)) is ∙ none_spoiled (host_addressed address) (has_zero line)
unaddressed address line first (second ∷ others) is other =
    line_fails (host_addressed address) line (record { first = first; second = second; others = others }) (ap two_of (sym is)) (λ a spelled. same_address address (addressed_of first) a spelled ∙ other)

pub addressed : (address line : List ℕ) (two : TwoWords) → Some two ≡ two_of (words_of (before_remark line)) → option_map_or (λ (a : Addressed). bytes_eq a.address address) (addressed_of two.first) false ≡ true → if_named (host_addressed address) (host_of_line line) ≡ host_of_formed line two
addressed address line two is same = line_passes (host_addressed address) line two is (λ a spelled. same_address address (addressed_of two.first) a spelled ∙ same)
