-- Where an entry of a passwd file stands in its text.
use Rattle.std.specs.Prelude.{◌≡◌, ℕ, Bool, if◌then◌else◌, List, [], ◌∷◌, Option, Some, None}
use Rattle.nsc_base.specs.Decimal.{decimal_of}
use Rattle.nsc_base.specs.declared.span.Span.{Span}
use Rattle.nsc_base.specs.Text.{LiesIn, part}
use Rattle.nsc_model.specs.declared.row.Passwd.{Passwd}
use Rattle.nsc_model.specs.Entries.{if_named}
use Rattle.nsc_model.specs.Users.{◌>>=◌, has_zero, is_name}
use Rattle.nsc_accounts.specs.Fields.{line_fields}
use Rattle.nsc_accounts.specs.declared.passwd.PasswdAt.{PasswdAt}

-- the entry whose texts stand in these places
abbrev pub user_at : List ℕ → PasswdAt → Passwd
user_at text at = record {
  name = part text at.name;
  passwd = part text at.passwd;
  uid = at.uid;
  gid = at.gid;
  gecos = part text at.gecos;
  dir = part text at.dir;
  shell = part text at.shell;
}

-- where the texts of an entry stand, by the places of its fields: name:passwd:uid:gid:gecos:dir:shell
abbrev pub user_of_spans : List ℕ → List Span → Option PasswdAt
user_of_spans text (name ∷ passwd ∷ uid ∷ gid ∷ gecos ∷ dir ∷ shell ∷ []) = do
  user ← decimal_of (part text uid)
  group ← decimal_of (part text gid)
  if is_name (part text name) then Some (record { name = name; passwd = passwd; uid = user; gid = group; gecos = gecos; dir = dir; shell = shell }) else None
user_of_spans text _ = None

-- where the texts of the entry of a line stand, where the line has the form
abbrev pub user_places : List ℕ → Span → Option PasswdAt
user_places text line = if has_zero (part text line) then None else user_of_spans text (line_fields text line)

-- a line gives its entry, where the entry is named
abbrev pub GivesUser : List ℕ → (PasswdAt → Bool) → Span → Option PasswdAt → Type 0
GivesUser text names line given = given ≡ if_named names (user_places text line)

-- each text of the entry lies within this part of the file
pub record UserLiesIn (within : Span) (at : PasswdAt) : Type 0 where
  pub name_in : LiesIn within at.name
  pub passwd_in : LiesIn within at.passwd
  pub gecos_in : LiesIn within at.gecos
  pub dir_in : LiesIn within at.dir
  pub shell_in : LiesIn within at.shell
