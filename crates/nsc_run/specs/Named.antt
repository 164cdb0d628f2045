-- What lists have named so far, name by name.
use Rattle.std.specs.Prelude.{Bool, true, false, ◌&&◌, not, if◌then◌else◌, List, [], ◌∷◌, Option, Some, None, option_and_then, codes}
use Rattle.std.specs.Str.{bytes_eq}
use Rattle.nsc_model.specs.declared.kind.Db.{Db}
use Rattle.nsc_model.specs.Kinds.{db_named}
use Rattle.nsc_server.specs.declared.scope.Scope.{Scope}
use Rattle.nsc_server.specs.declared.scope.Scope.TheVariants as scope
use Rattle.nsc_server.specs.Scopes.{scope_in, scopes_with}
use Rattle.nsc_run.specs.declared.lists.Named.{Named}
use Rattle.clap.specs.Walk.{Text}
use Rattle.nsc_run.specs.Lists.{is_left}

abbrev pub is_whole : Scope → Bool
is_whole scope.Whole = true
is_whole _ = false

-- a database more, if no list has named it
abbrev pub with_database : Scope → Db → Named → Option Named
with_database s which named =
    if is_whole (scope_in named.scopes which) then Some (record named { scopes = scopes_with which s named.scopes }) else None

-- a name more that is of no database
abbrev pub with_netgroup : Scope → Text → Named → Option Named
with_netgroup s name named =
    if is_left s && bytes_eq name (codes "netgroup") && not named.has_netgroup then Some (record named { has_netgroup = true }) else None

abbrev pub with_named : Scope → Option Db → Text → Named → Option Named
with_named s (Some which) name named = with_database s which named
with_named s None name named = with_netgroup s name named

-- a name more
abbrev pub with_name : Scope → Text → Named → Option Named
with_name s name named = with_named s (db_named name) name named

-- names more, in order
abbrev pub with_names : Scope → List Text → Named → Option Named
with_names s [] named = Some named
with_names s (name ∷ names) named = option_and_then (λ more. with_names s names more) (with_name s name named)
