-- The lines of a passwd file by name, by user id and by sign.
use Rattle.std.specs.Prelude.{◌≡◌, ℕ, Bool, List}
use Rattle.nsc_accounts.specs.Passwd.{user_places}
use Rattle.nsc_accounts.specs.declared.passwd.PasswdAt.{PasswdAt}
use Rattle.nsc_index.specs.declared.users.UserIndex.{UserIndex}
use Rattle.nsc_index.specs.Fronts.{id_rows, name_rows}
use Rattle.nsc_index.specs.Indexes.{lines_named, rows_from}
use Rattle.nsc_index.specs.Signs.{IsSignIndex}

-- the places of the lines that have the form and an entry that is named
abbrev pub users_named : List ℕ → (PasswdAt → Bool) → List ℕ
users_named text names = lines_named (user_places text) names text

-- each line that spells an id under the number of its name and under that id, whether or not it has the form, and each that speaks by
-- a sign
pub record IsUserIndex (text : List ℕ) (index : UserIndex) : Type 0 where
  pub names : index.names ≡ rows_from (name_rows text) text 0
  pub ids : index.ids ≡ rows_from (id_rows text) text 0
  pub signs : IsSignIndex text index.signs.items
