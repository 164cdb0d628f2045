-- The entries of a services file, services(5).
use Rattle.std.specs.Prelude.{ℕ, ◌+◌, ◌*◌, ◌/◌, ◌%◌, Bool, not, ◌==◌, ◌||◌, ◌&&◌, nat_lt, if◌then◌else◌, List, [], ◌∷◌, Option, Some, None}
use Rattle.std.specs.List.{after_first, after_last, before_first, before_last, list_any}
use Rattle.std.specs.Str.{bytes_eq}
use Rattle.nsc_base.specs.Text.{before_remark, is_filled, words_of}
use Rattle.nsc_base.specs.Decimal.{decimal_of}
use Rattle.nsc_model.specs.declared.row.Service.{Service}
use Rattle.nsc_model.specs.Users.{◌>>=◌, has_zero}

abbrev pub is_slash : ℕ → Bool
is_slash b = b == 47

-- a port is a number of 16 bits, in decimal
abbrev pub port_of : List ℕ → Option ℕ
port_of text = do
  n ← decimal_of text
  if nat_lt n 65536 then Some n else None

-- the official name, the port and the protocol, and the aliases. The second word is cut at its first slash, and a protocol
-- is not empty.
abbrev pub service_of_words : List (List ℕ) → Option Service
service_of_words (name ∷ second ∷ aliases) = do
  port ← port_of (before_first is_slash second)
  if is_filled (after_first is_slash second) then Some (record { name = name; proto = after_first is_slash second; aliases = aliases; port = port }) else None
service_of_words _ = None

-- the entry of a line, where the line has the form
abbrev pub service_of_line : List ℕ → Option Service
service_of_line line = if has_zero line then None else service_of_words (words_of (before_remark line))

-- a key: a name or a port, and a protocol
pub record ServiceKey : Type 0 where
  pub asked : List ℕ
  pub proto : List ℕ

-- a key is cut at its last slash; with no slash the protocol is empty
abbrev pub service_key : List ℕ → ServiceKey
service_key key =
    if list_any is_slash key then record { asked = before_last is_slash key; proto = after_last is_slash key }
    else record { asked = key; proto = [] }

-- any protocol will do where the key names none
abbrev pub proto_fits : List ℕ → Service → Bool
proto_fits proto s = not (is_filled proto) || bytes_eq s.proto proto

-- a service of this name or alias
abbrev pub service_has_name : List ℕ → Service → Bool
service_has_name name s = list_any (λ n. bytes_eq n name) (s.name ∷ s.aliases)

abbrev pub service_named : List ℕ → List ℕ → Service → Bool
service_named name proto s = service_has_name name s && proto_fits proto s

abbrev pub service_ported : ℕ → List ℕ → Service → Bool
service_ported port proto s = s.port == port && proto_fits proto s

-- on the wire the two bytes of a port are exchanged
abbrev pub exchanged : ℕ → ℕ
exchanged port = port % 256 * 256 + port / 256
