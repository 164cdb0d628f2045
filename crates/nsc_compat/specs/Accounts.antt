-- The entries of passwd and of group, as scans of compat lines see them.
use Rattle.std.specs.Prelude.{◌≡◌, ℕ, Bool, true, not, ◌&&◌, if◌then◌else◌, List, Option, Some, None}
use Rattle.std.specs.Str.{bytes_eq}
use Rattle.nsc_model.specs.declared.kind.Db.{Db}
use Rattle.nsc_model.specs.declared.kind.Db.TheVariants as db
use Rattle.nsc_model.specs.declared.kind.Kind.{Kind}
use Rattle.nsc_model.specs.declared.kind.Kind.TheVariants as kind
use Rattle.nsc_model.specs.declared.kind.FileId.{FileId}
use Rattle.nsc_model.specs.declared.kind.FileId.TheVariants as file
use Rattle.nsc_model.specs.declared.row.Passwd.{Passwd}
use Rattle.nsc_model.specs.declared.row.Group.{Group}
use Rattle.nsc_model.specs.declared.row.Row.TheVariants as row
use Rattle.nsc_model.specs.declared.row.Looked.{Looked}
use Rattle.nsc_model.specs.declared.row.Looked.TheVariants.{Found}
use Rattle.nsc_model.specs.Answers.{group_in, is_id, sub_looked, user_in}
use Rattle.nsc_model.specs.Compat.{Scan, is_excluded, replaced_user}
use Rattle.nsc_model.specs.Content.{Content}
use Rattle.nsc_model.specs.Groups.{group_of_line}
use Rattle.nsc_model.specs.Users.{user_of_line}
use Rattle.nsc_compat.specs.declared.asking.Asking.{Asking}
use Rattle.nsc_compat.specs.declared.asking.Naming.{Naming}
use Rattle.nsc_compat.specs.declared.asking.Naming.TheVariants.{Name, Id}

-- the file of a database, the kind that asks for an entry by its name, the entry of a line, its name and id, the entry of an
-- outcome, what the fields of a plus line make of an entry, and its outcome
pub record Accounts (A : Type 0) : Type 0 where
  pub database : Db
  pub file : FileId
  pub by_name : Kind
  pub entry_of : List ℕ → Option A
  pub name_of : A → List ℕ
  pub id_of : A → ℕ
  pub entry_in : Looked → Option A
  pub replaced : List (List ℕ) → A → A
  pub found : A → Looked

abbrev pub passwd_accounts : Accounts Passwd
passwd_accounts = record {
  database = db.Passwd;
  file = file.Passwd;
  by_name = kind.PwName;
  entry_of = user_of_line;
  name_of = λ p. p.name;
  id_of = λ p. p.uid;
  entry_in = user_in;
  replaced = replaced_user;
  found = λ p. Found (row.Passwd p);
}

-- of a group nothing is replaced
abbrev pub group_accounts : Accounts Group
group_accounts = record {
  database = db.Group;
  file = file.Group;
  by_name = kind.GrName;
  entry_of = group_of_line;
  name_of = λ g. g.name;
  id_of = λ g. g.gid;
  entry_in = group_in;
  replaced = λ fields g. g;
  found = λ g. Found (row.Group g);
}

-- whether the entry of this name and id is the one that is wanted
abbrev pub names_entry : Naming → List ℕ → ℕ → Bool
names_entry (Name key) name id = bytes_eq name key.now
names_entry (Id wanted) name id = is_id wanted id

abbrev pub is_wanted : {A : Type 0} → Accounts A → Naming → A → Bool
is_wanted accounts wanted a = names_entry wanted (accounts.name_of a) (accounts.id_of a)

-- the names that an entry has that is wanted: any, where it is not wanted by its name
abbrev pub wanted_names : Naming → List ℕ → Bool
wanted_names (Name key) name = bytes_eq name key.now
wanted_names (Id wanted) name = true

-- a request for an entry by its name is of that kind, and the name is its key
abbrev pub IsAskedBy : {A : Type 0} → Accounts A → Kind → List ℕ → Naming → Type 0
IsAskedBy accounts by key (Name name) = (by ≡ accounts.by_name) × (name.now ≡ key)
IsAskedBy accounts by key (Id wanted) = Unit {0}

-- the scan of a request, over a content
abbrev pub scan_of : {A : Type 0} → Accounts A → Content → Asking → Scan A
scan_of accounts content asking = record {
  entry_of = accounts.entry_of;
  name_of = accounts.name_of;
  names = is_wanted accounts asking.wanted;
  by_name = λ name. accounts.entry_in (sub_looked content accounts.database accounts.by_name name);
  asked = accounts.entry_in (sub_looked content accounts.database asking.kind asking.key.now);
  replaced = accounts.replaced;
  found = accounts.found;
}

-- the outcome of an entry that may answer, where its name is not excluded
abbrev pub outcome_by : {A : Type 0} → Accounts A → (A → Bool) → List (List ℕ) → Option A → (A → A) → Option Looked
outcome_by accounts names excluded None replaced = None
outcome_by accounts names excluded (Some a) replaced =
    if names a && not (is_excluded excluded (accounts.name_of a)) then Some (accounts.found (replaced a)) else None
