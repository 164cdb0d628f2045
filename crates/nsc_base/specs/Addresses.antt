-- Addresses as texts: IPv4 in dotted decimal, IPv6 in the groups of RFC 4291, 2.2; printed as RFC 5952, 4 says. An address is
-- its bytes, four or sixteen.
use Rattle.std.specs.Prelude.{ℕ, ◌+◌, ◌-◌, Bool, false, ◌==◌, ◌&&◌, nat_lt, if◌then◌else◌, List, [], ◌∷◌, ◌++◌, map, take, drop, length, replicate, decimal, Option, Some, None, option_and_then}
use Rattle.std.specs.Option.{option_map, option_or}
use Rattle.std.specs.List.{join_with_byte, list_all}
use Rattle.std.specs.Char.{is_ascii_hexdigit}
use Rattle.std.specs.Fmt.{digits}
use Rattle.std.specs.Str.{bytes_eq}
use Rattle.std.specs.Str.Parse.{digits_value}
use Rattle.std.specs.Net.Addr.{octets_of, segments_of}
use Rattle.nsc_base.specs.Text.{fields_of, is_filled}

infixl 10 ◌>>=◌
abbrev ◌>>=◌ : {A B : Type 0} → Option A → (A → Option B) → Option B
o >>= f = option_and_then f o

-- what texts spell, where each of them spells something
abbrev pub each_spelled : (List ℕ → Option ℕ) → List (List ℕ) → Option (List ℕ)
each_spelled spelled [] = Some []
each_spelled spelled (text ∷ texts) = do
  first ← spelled text
  others ← each_spelled spelled texts
  Some (first ∷ others)

-- `count` numbers, or nothing
abbrev pub exactly : ℕ → Option (List ℕ) → Option (List ℕ)
exactly count None = None
exactly count (Some numbers) = if length numbers == count then Some numbers else None

-- ---- IPv4

-- a number below 256 as it is printed in decimal: so with no zero at its front
abbrev pub octet_of : List ℕ → Option ℕ
octet_of text = let n = digits_value 10 text in if nat_lt n 256 && bytes_eq (decimal n) text then Some n else None

-- four such numbers with dots between them
abbrev pub v4_of : List ℕ → Option (List ℕ)
v4_of text = exactly 4 (each_spelled octet_of (fields_of 46 text))

abbrev pub v4_text : List ℕ → List ℕ
v4_text address = join_with_byte 46 (map decimal address)

-- ---- IPv6

-- a group of 16 bits: one to four hexadecimal digits, in either case
abbrev pub is_group : List ℕ → Bool
is_group text = is_filled text && nat_lt (length text) 5 && list_all is_ascii_hexdigit text

abbrev pub group_of : List ℕ → Option ℕ
group_of text = if is_group text then Some (digits_value 16 text) else None

-- the last two groups may be written as an IPv4 address
abbrev pub last_of : List ℕ → Option (List ℕ)
last_of text = option_or (option_map (λ group. group ∷ []) (group_of text)) (option_map segments_of (v4_of text))

abbrev pub groups_to_last : List (List ℕ) → Option (List ℕ)
groups_to_last [] = Some []
groups_to_last (text ∷ []) = last_of text
groups_to_last (text ∷ next ∷ texts) = do
  first ← group_of text
  others ← groups_to_last (next ∷ texts)
  Some (first ∷ others)

-- the texts between colons; in no text there is none
abbrev pub between_colons : List ℕ → List (List ℕ)
between_colons [] = []
between_colons (b ∷ bytes) = fields_of 58 (b ∷ bytes)

-- what stands before the first `::` and what stands after it
abbrev pub is_pair : ℕ → List ℕ → Bool
is_pair b [] = false
is_pair b (c ∷ bytes) = b == 58 && c == 58

abbrev pub around_pair : List ℕ → Option (List ℕ × List ℕ)
around_pair [] = None
around_pair (b ∷ bytes) = if is_pair b bytes then Some ([], drop 1 bytes) else option_map (λ halves. (b ∷ halves.0, halves.1)) (around_pair bytes)

-- eight groups, of which the pair means those between: one or more, each 0
abbrev pub with_zeros : List ℕ → List ℕ → Option (List ℕ)
with_zeros front back = if nat_lt (length front + length back) 8 then Some (front ++ replicate (8 - length front - length back) 0 ++ back) else None

abbrev pub v6_groups : List ℕ → Option (List ℕ × List ℕ) → Option (List ℕ)
v6_groups text None = exactly 8 (groups_to_last (between_colons text))
v6_groups text (Some halves) = do
  front ← each_spelled group_of (between_colons halves.0)
  back ← groups_to_last (between_colons halves.1)
  with_zeros front back

abbrev pub v6_of : List ℕ → Option (List ℕ)
v6_of text = option_map octets_of (v6_groups text (around_pair text))

-- the zeros at the front
abbrev pub zeros_at_front : List ℕ → ℕ
zeros_at_front [] = 0
zeros_at_front (group ∷ groups) = if group == 0 then zeros_at_front groups + 1 else 0

-- a run of groups that are 0
pub record Run : Type 0 where
  pub before : ℕ
  pub count : ℕ

-- the longest run of zeros; of runs that are as long the first
abbrev pub longest_run : List ℕ → Run
longest_run [] = record { before = 0; count = 0 }
longest_run (group ∷ groups) =
    let here = zeros_at_front (group ∷ groups) in
    let later = longest_run groups in
    if nat_lt here later.count then record { before = later.before + 1; count = later.count } else record { before = 0; count = here }

-- groups in lower case with no zero at their front, with colons between them
abbrev pub colon_text : List ℕ → List ℕ
colon_text groups = join_with_byte 58 (map (digits 16 false) groups)

-- two zeros or more are written `::`
abbrev pub groups_text : List ℕ → Run → List ℕ
groups_text groups run =
    if nat_lt run.count 2 then colon_text groups
    else colon_text (take run.before groups) ++ 58 ∷ 58 ∷ colon_text (drop (run.before + run.count) groups)

abbrev pub v6_text : List ℕ → List ℕ
v6_text address = groups_text (segments_of address) (longest_run (segments_of address))
