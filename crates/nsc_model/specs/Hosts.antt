-- The entries of a hosts file, hosts(5).
use Rattle.std.specs.Prelude.{ℕ, Bool, not, ◌==◌, ◌&&◌, if◌then◌else◌, List, [], ◌∷◌, filter, Option, None}
use Rattle.std.specs.Option.{option_map, option_or}
use Rattle.std.specs.List.{list_any}
use Rattle.std.specs.Str.{bytes_eq, str_eq_ignore_ascii_case}
use Rattle.nsc_base.specs.Text.{before_remark, words_of}
use Rattle.nsc_base.specs.Addresses.{v4_of, v6_of}
use Rattle.nsc_model.specs.declared.row.Host.{Host}
use Rattle.nsc_model.specs.Users.{has_zero}

-- the address families of the protocol
abbrev pub ipv4 : ℕ
ipv4 = 2

abbrev pub ipv6 : ℕ
ipv6 = 10

-- an address with its family
pub record Addressed : Type 0 where
  pub family : ℕ
  pub address : List ℕ

abbrev pub addressed_of : List ℕ → Option Addressed
addressed_of text =
    option_or (option_map (λ a. record { family = ipv4; address = a }) (v4_of text))
    (option_map (λ a. record { family = ipv6; address = a }) (v6_of text))

-- an address, the canonical name and the aliases
abbrev pub host_of_words : List (List ℕ) → Option Host
host_of_words (address ∷ name ∷ aliases) =
    option_map (λ a. record { name = name; aliases = aliases; family = a.family; address = a.address }) (addressed_of address)
host_of_words _ = None

-- the entry of a line, where the line has the form
abbrev pub host_of_line : List ℕ → Option Host
host_of_line line = if has_zero line then None else host_of_words (words_of (before_remark line))

-- whether a host has this name, without regard to the case of ASCII letters
abbrev pub host_has_name : List ℕ → Host → Bool
host_has_name name h = list_any (λ n. str_eq_ignore_ascii_case n name) (h.name ∷ h.aliases)

-- a host of this family that has this name
abbrev pub host_named : ℕ → List ℕ → Host → Bool
host_named family name h = h.family == family && host_has_name name h

-- a host with this address; an address of another length is none
abbrev pub host_addressed : List ℕ → Host → Bool
host_addressed address h = bytes_eq h.address address

-- the first host of each family, in the order of the list
abbrev pub family_once : List Host → List Host
family_once [] = []
family_once (h ∷ hosts) = h ∷ filter (λ other. not (other.family == h.family)) (family_once hosts)
