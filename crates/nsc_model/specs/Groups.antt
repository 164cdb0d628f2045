-- The entries of a group file, group(5).
use Rattle.std.specs.Prelude.{ℕ, Bool, if◌then◌else◌, List, [], ◌∷◌, filter, Option, Some, None}
use Rattle.std.specs.List.{list_any}
use Rattle.std.specs.Str.{bytes_eq}
use Rattle.nsc_base.specs.Text.{fields_of, is_filled, trimmed}
use Rattle.nsc_base.specs.Decimal.{decimal_of}
use Rattle.nsc_model.specs.declared.row.Group.{Group}
use Rattle.nsc_model.specs.Users.{◌>>=◌, has_zero, is_name}

-- the members are the pieces between commas that are not empty
abbrev pub members_of : List ℕ → List (List ℕ)
members_of field = filter is_filled (fields_of 44 field)

-- name:passwd:gid:members, exactly four fields, the id in decimal
abbrev pub group_of_fields : List (List ℕ) → Option Group
group_of_fields (name ∷ passwd ∷ gid ∷ members ∷ []) = do
  id ← decimal_of gid
  if is_name name then Some (record { name = name; passwd = passwd; gid = id; members = members_of members }) else None
group_of_fields _ = None

-- the entry of a line, where the line has the form
abbrev pub group_of_line : List ℕ → Option Group
group_of_line line = if has_zero line then None else group_of_fields (fields_of 58 (trimmed line))

-- whether the user is a member
abbrev pub has_member : List ℕ → Group → Bool
has_member user g = list_any (λ member. bytes_eq member user) g.members
