-- The lists of databases that a daemon leaves to who asks, wholly or in part.
use Rattle.std.specs.Prelude.{Bool, true, false, ◌&&◌, ◌||◌, ◌==◌, not, is_some, if◌then◌else◌, List, [], ◌∷◌, ◌++◌, Option, Some, None, codes}
use Rattle.std.specs.List.{list_all, list_any, slice_split}
use Rattle.std.specs.Str.{bytes_eq}
use Rattle.clap.specs.Walk.{Text}
use Rattle.nsc_model.specs.declared.kind.Db.{Db}
use Rattle.nsc_model.specs.declared.kind.Db.TheVariants as db
use Rattle.nsc_model.specs.Kinds.{db_named, name_of}
use Rattle.nsc_server.specs.declared.scope.Scope.{Scope}
use Rattle.nsc_server.specs.declared.scope.Scope.TheVariants as scope
use Rattle.nsc_server.specs.declared.scope.Scopes.{Scopes}

-- the names of a list: the texts between its commas
abbrev pub names_between : Text → List Text
names_between list = slice_split (λ b. b == 44) list

-- where there is no list there is no name
abbrev pub names_in : Option Text → List Text
names_in None = []
names_in (Some list) = names_between list

-- a name is among names
abbrev pub has_name : List Text → Text → Bool
has_name names name = list_any (λ other. bytes_eq other name) names

-- no name occurs twice
abbrev pub is_distinct : List Text → Bool
is_distinct [] = true
is_distinct (name ∷ names) = not (has_name names name) && is_distinct names

-- a name of a database
abbrev pub is_database : Text → Bool
is_database name = is_some (db_named name)

-- a name that may be left: of a database, or that of the netgroups
abbrev pub is_leavable : Text → Bool
is_leavable name = is_database name || bytes_eq name (codes "netgroup")

-- the scope of a database, by the names of which only found entries are told, and those that are left
abbrev pub scope_by : List Text → List Text → Db → Scope
scope_by found_only left which =
    if has_name found_only (name_of which) then scope.FoundOnly else (if has_name left (name_of which) then scope.Left else scope.Whole)

abbrev pub scopes_by : List Text → List Text → Scopes
scopes_by found_only left = record {
  passwd = scope_by found_only left db.Passwd;
  group = scope_by found_only left db.Group;
  hosts = scope_by found_only left db.Hosts;
  services = scope_by found_only left db.Services;
}

-- a database is left
abbrev pub is_left : Scope → Bool
is_left scope.Left = true
is_left _ = false

abbrev pub has_left : Scopes → Bool
has_left scopes = is_left scopes.passwd || is_left scopes.group || is_left scopes.hosts || is_left scopes.services

-- Names make scopes if each may stand where it does, and none occurs twice, in one list or in both.
abbrev pub scopes_named : List Text → List Text → Option Scopes
scopes_named found_only left =
    if list_all is_database found_only && list_all is_leavable left && is_distinct (found_only ++ left) then Some (scopes_by found_only left) else None

-- the scopes that two lists make: `--found-only` and `--leave`
abbrev pub scopes_of : Option Text → Option Text → Option Scopes
scopes_of found_only leave = scopes_named (names_in found_only) (names_in leave)
