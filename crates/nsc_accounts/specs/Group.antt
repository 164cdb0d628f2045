-- Where an entry of a group file stands in its text.
use Rattle.std.specs.Prelude.{◌≡◌, ℕ, Bool, if◌then◌else◌, List, [], ◌∷◌, Option, Some, None}
use Rattle.nsc_base.specs.Decimal.{decimal_of}
use Rattle.nsc_base.specs.declared.span.Span.{Span}
use Rattle.nsc_base.specs.Text.{LiesIn, part}
use Rattle.nsc_model.specs.declared.row.Group.{Group}
use Rattle.nsc_model.specs.Entries.{if_named}
use Rattle.nsc_model.specs.Groups.{members_of}
use Rattle.nsc_model.specs.Users.{◌>>=◌, has_zero, is_name}
use Rattle.nsc_accounts.specs.Fields.{line_fields}
use Rattle.nsc_accounts.specs.declared.group.GroupAt.{GroupAt}

-- the entry whose texts stand in these places
abbrev pub group_at : List ℕ → GroupAt → Group
group_at text at = record {
  name = part text at.name;
  passwd = part text at.passwd;
  gid = at.gid;
  members = members_of (part text at.members);
}

-- where the texts of an entry stand, by the places of its fields: name:passwd:gid:members
abbrev pub group_of_spans : List ℕ → List Span → Option GroupAt
group_of_spans text (name ∷ passwd ∷ gid ∷ members ∷ []) = do
  id ← decimal_of (part text gid)
  if is_name (part text name) then Some (record { name = name; passwd = passwd; gid = id; members = members }) else None
group_of_spans text _ = None

-- where the texts of the entry of a line stand, where the line has the form
abbrev pub group_places : List ℕ → Span → Option GroupAt
group_places text line = if has_zero (part text line) then None else group_of_spans text (line_fields text line)

-- a line gives its entry, where the entry is named
abbrev pub GivesGroup : List ℕ → (GroupAt → Bool) → Span → Option GroupAt → Type 0
GivesGroup text names line given = given ≡ if_named names (group_places text line)

-- each text of the entry lies within this part of the file
pub record GroupLiesIn (within : Span) (at : GroupAt) : Type 0 where
  pub name_in : LiesIn within at.name
  pub passwd_in : LiesIn within at.passwd
  pub members_in : LiesIn within at.members
