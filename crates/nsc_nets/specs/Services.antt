-- Where an entry of a services file stands in its text.
use Rattle.std.specs.Prelude.{◌≡◌, ℕ, ◌+◌, Bool, List, ◌∷◌, length, Option, Some, None, IfSome, if◌then◌else◌}
use Rattle.std.specs.List.{after_first, before_first}
use Rattle.std.specs.Option.{option_map}
use Rattle.nsc_base.specs.declared.span.Span.{Span}
use Rattle.nsc_base.specs.Text.{LiesIn, is_filled, part, word_spans, words_of}
use Rattle.nsc_model.specs.declared.row.Service.{Service}
use Rattle.nsc_model.specs.Entries.{if_named}
use Rattle.nsc_model.specs.ServiceLines.{is_slash, port_of, service_of_line}
use Rattle.nsc_model.specs.Users.{◌>>=◌, has_zero}
use Rattle.nsc_nets.specs.declared.services.PortAt.{PortAt}
use Rattle.nsc_nets.specs.declared.services.ServiceAt.{ServiceAt}
use Rattle.nsc_nets.specs.Lines.{entry_part}
use Rattle.nsc_base.specs.Words.{TwoWords}

-- the entry whose texts stand in these places
abbrev pub service_at : List ℕ → ServiceAt → Service
service_at text at = record {
  name = part text at.name;
  proto = part text at.proto;
  aliases = words_of (part text at.aliases);
  port = at.port;
}

-- each text of the entry lies within this part of the file
pub record ServiceLiesIn (within : Span) (at : ServiceAt) : Type 0 where
  pub name_in : LiesIn within at.name
  pub proto_in : LiesIn within at.proto
  pub aliases_in : LiesIn within at.aliases

-- a protocol is what stands after the first slash of a word
pub record ProtoStands (text : List ℕ) (word proto : Span) : Type 0 where
  pub begins : proto.from ≡ word.from + length (before_first is_slash (part text word)) + 1
  pub ends : proto.to ≡ word.to

-- its names are the words of the line but the second, in their places, and its protocol stands in the second
pub record ServiceStands (text : List ℕ) (line : Span) (at : ServiceAt) : Type 0 where
  pub second : Span
  pub words : word_spans text (entry_part text line) ≡ at.name ∷ second ∷ word_spans text at.aliases
  pub proto : ProtoStands text second at.proto

-- what a line gives to a request that names some services: its entry where it is named, in the places where its words
-- stand
pub record GivesService (names : Service → Bool) (text : List ℕ) (line : Span) (given : Option ServiceAt) : Type 0 where
  pub entry : option_map (service_at text) given ≡ if_named names (service_of_line (part text line))
  pub inside : IfSome given (ServiceLiesIn line)
  pub stands : IfSome given (ServiceStands text line)

-- a port and a protocol
pub record Port : Type 0 where
  pub port : ℕ
  pub proto : List ℕ

abbrev pub port_at : List ℕ → PortAt → Port
port_at text at = record { port = at.port; proto = part text at.proto }

-- the port and the protocol that a word spells
abbrev pub port_of_word : List ℕ → Option Port
port_of_word word = do
  port ← port_of (before_first is_slash word)
  if is_filled (after_first is_slash word) then Some (record { port = port; proto = after_first is_slash word }) else None

abbrev pub service_with : TwoWords → Port → Service
service_with words port = record { name = words.first; proto = port.proto; aliases = words.others; port = port.port }

-- the entry of the words of a line
abbrev pub service_of_two : TwoWords → Option Service
service_of_two words = do
  port ← port_of_word words.second
  Some (service_with words port)

-- the same for a line that no zero byte spoils
abbrev pub service_of_formed : List ℕ → TwoWords → Option Service
service_of_formed line words = if has_zero line then None else service_of_two words
