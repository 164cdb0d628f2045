-- The address of a host's entry, and where its names stand in its text.
use Rattle.std.specs.Prelude.{◌≡◌, ℕ, ◌==◌, Bool, List, ◌∷◌, Option, None, IfSome, if◌then◌else◌, drop, replicate, take}
use Rattle.std.specs.Option.{option_map}
use Rattle.nsc_base.specs.declared.span.Span.{Span}
use Rattle.nsc_base.specs.Text.{LiesIn, part, word_spans, words_of}
use Rattle.nsc_model.specs.declared.row.Host.{Host}
use Rattle.nsc_model.specs.Entries.{if_named}
use Rattle.nsc_model.specs.Hosts.{Addressed, addressed_of, host_of_line, ipv4}
use Rattle.nsc_model.specs.Users.{has_zero}
use Rattle.nsc_nets.specs.declared.hosts.Address.{Address}
use Rattle.nsc_nets.specs.declared.hosts.HostAt.{HostAt}
use Rattle.nsc_nets.specs.Lines.{entry_part}
use Rattle.nsc_base.specs.Words.{TwoWords}

-- an address of IPv4 is in the first four bytes
abbrev pub own_bytes : ℕ → List ℕ → List ℕ
own_bytes family bytes = if family == ipv4 then take 4 bytes else bytes

abbrev pub addressed_at : Address → Addressed
addressed_at at = record { family = at.family; address = own_bytes at.family at.bytes }

-- the entry with this address, whose names stand in these places
abbrev pub host_at : List ℕ → HostAt → Host
host_at text at = record {
  name = part text at.name;
  aliases = words_of (part text at.aliases);
  family = at.family;
  address = own_bytes at.family at.address;
}

-- the names of the entry lie within this part of the file
pub record HostLiesIn (within : Span) (at : HostAt) : Type 0 where
  pub name_in : LiesIn within at.name
  pub aliases_in : LiesIn within at.aliases

-- its names are the words of the line from the second on, in their places
abbrev pub HostStands : List ℕ → Span → HostAt → Type 0
HostStands text line at = drop 1 (word_spans text (entry_part text line)) ≡ at.name ∷ word_spans text at.aliases

-- the twelve bytes after an address of IPv4 are 0
abbrev pub IsPadded : ℕ → List ℕ → Type 0
IsPadded family bytes = family ≡ ipv4 → drop 4 bytes ≡ replicate 12 0

-- what a line gives to a request that names some hosts: its entry where it is named, in the places where its words stand
pub record GivesHost (names : Host → Bool) (text : List ℕ) (line : Span) (given : Option HostAt) : Type 0 where
  pub entry : option_map (host_at text) given ≡ if_named names (host_of_line (part text line))
  pub inside : IfSome given (HostLiesIn line)
  pub stands : IfSome given (HostStands text line)
  pub padded : IfSome given (λ at. IsPadded at.family at.address)

abbrev pub host_with : TwoWords → Addressed → Host
host_with words a = record { name = words.second; aliases = words.others; family = a.family; address = a.address }

-- the entry of the words of a line
abbrev pub host_of_two : TwoWords → Option Host
host_of_two words = option_map (host_with words) (addressed_of words.first)

-- the same for a line that no zero byte spoils
abbrev pub host_of_formed : List ℕ → TwoWords → Option Host
host_of_formed line words = if has_zero line then None else host_of_two words
