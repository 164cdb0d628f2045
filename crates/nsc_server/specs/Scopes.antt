-- Scopes: which lookups of a database are answered. One that is left is closed without a reply, and the program that asks looks by itself.
use Rattle.std.specs.Prelude.{◌≡◌, ℕ, Bool, true, false, ◌&&◌, ◌==◌, nat_le, List, length}
use Rattle.nsc_model.specs.declared.kind.Db.{Db}
use Rattle.nsc_model.specs.declared.kind.Db.TheVariants as db
use Rattle.nsc_model.specs.declared.kind.Kind.{Kind}
use Rattle.nsc_model.specs.declared.kind.Kind.TheVariants as kind
use Rattle.nsc_model.specs.Kinds.{database_of}
use Rattle.nsc_model.specs.Wire.{Asked, Look, field_in}
use Rattle.nsc_server.specs.declared.scope.Scope.{Scope}
use Rattle.nsc_server.specs.declared.scope.Scope.TheVariants as scope
use Rattle.nsc_server.specs.declared.scope.Scopes.{Scopes}

-- the scope of a database
abbrev pub scope_in : Scopes → Db → Scope
scope_in scopes db.Passwd = scopes.passwd
scope_in scopes db.Group = scopes.group
scope_in scopes db.Hosts = scopes.hosts
scope_in scopes db.Services = scopes.services

-- the scopes where one database has another one
abbrev pub scopes_with : Db → Scope → Scopes → Scopes
scopes_with db.Passwd s scopes = record scopes { passwd = s }
scopes_with db.Group s scopes = record scopes { group = s }
scopes_with db.Hosts s scopes = record scopes { hosts = s }
scopes_with db.Services s scopes = record scopes { services = s }

-- all lookups of every database
abbrev pub whole : Scopes
whole = record { passwd = scope.Whole; group = scope.Whole; hosts = scope.Whole; services = scope.Whole }

-- a lookup for which further services of a list may be asked though an entry was found: the groups of a user, or addresses of both families
abbrev pub joins : Kind → Bool
joins kind.InitGroups = true
joins kind.Ai = true
joins _ = false

-- a lookup is left to who asks: each one of a database that is left, and one that joins where only found entries are told
abbrev pub is_left : Scope → Kind → Bool
is_left scope.Whole k = false
is_left scope.FoundOnly k = joins k
is_left scope.Left k = true

-- a reply says that there is no such entry: its second field is 0
abbrev pub is_absent : List ℕ → Bool
is_absent reply = nat_le 8 (length reply) && field_in reply 4 == 0

-- of the database that was asked only found entries are told
abbrev pub IsFoundOnly : Scopes → Asked → Type 0
IsFoundOnly scopes (Look request) = scope_in scopes (database_of request.kind) ≡ scope.FoundOnly
IsFoundOnly scopes _ = ⊥

-- a reply to what was asked is kept back: it says that there is no such entry, and only found ones are told
abbrev pub IsKeptBack : Scopes → Asked → List ℕ → Type 0
IsKeptBack scopes asked reply = IsFoundOnly scopes asked × (is_absent reply ≡ true)
