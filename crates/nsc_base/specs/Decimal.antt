-- Decimal text.
use Rattle.std.specs.Prelude.{ℕ, ◌+◌, ◌-◌, ◌*◌, ◌^◌, nat_lt, Bool, ◌&&◌, if◌then◌else◌, List, [], ◌∷◌, length, Option, Some, None}
use Rattle.std.specs.List.{list_all}
use Rattle.std.specs.Char.{is_ascii_digit}
use Rattle.nsc_base.specs.Text.{is_filled}

-- the number that digits spell, the highest first
abbrev pub value_of : List ℕ → ℕ
value_of [] = 0
value_of (digit ∷ digits) = (digit - 48) * 10 ^ length digits + value_of digits

-- one digit or more, and nothing else: no sign, no blank; zeros at the front change nothing
abbrev pub is_decimal : List ℕ → Bool
is_decimal text = is_filled text && list_all is_ascii_digit text

-- the number below 2 ^ 32 that a text spells in decimal
abbrev pub decimal_of : List ℕ → Option ℕ
decimal_of text = if is_decimal text && nat_lt (value_of text) (2 ^ 32) then Some (value_of text) else None
