-- The entries of a passwd file, passwd(5).
use Rattle.std.specs.Prelude.{ℕ, Bool, false, not, ◌==◌, ◌||◌, if◌then◌else◌, List, [], ◌∷◌, Option, Some, None, option_and_then}
use Rattle.std.specs.List.{list_any}
use Rattle.nsc_base.specs.Text.{fields_of, trimmed}
use Rattle.nsc_base.specs.Decimal.{decimal_of}
use Rattle.nsc_model.specs.declared.row.Passwd.{Passwd}

abbrev pub has_zero : List ℕ → Bool
has_zero line = list_any (λ b. b == 0) line

-- a remark begins with a `#`, and a name with none of `#`, `+` and `-`; no name is empty
abbrev pub is_name : List ℕ → Bool
is_name [] = false
is_name (b ∷ bytes) = not (b == 35 || b == 43 || b == 45)

infixl 10 ◌>>=◌
abbrev pub ◌>>=◌ : {A B : Type 0} → Option A → (A → Option B) → Option B
o >>= f = option_and_then f o

-- name:passwd:uid:gid:gecos:dir:shell, exactly seven fields, the ids in decimal
abbrev pub user_of_fields : List (List ℕ) → Option Passwd
user_of_fields (name ∷ passwd ∷ uid ∷ gid ∷ gecos ∷ dir ∷ shell ∷ []) = do
  user ← decimal_of uid
  group ← decimal_of gid
  if is_name name then Some (record { name = name; passwd = passwd; uid = user; gid = group; gecos = gecos; dir = dir; shell = shell }) else None
user_of_fields _ = None

-- the entry of a line, where the line has the form
abbrev pub user_of_line : List ℕ → Option Passwd
user_of_line line = if has_zero line then None else user_of_fields (fields_of 58 (trimmed line))
