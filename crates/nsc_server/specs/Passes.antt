-- The stores of the four databases, and the passes of one caller.
use Rattle.std.specs.Prelude.{◌≡◌, ◌≢◌}
use Rattle.nsc_model.specs.declared.kind.Db.{Db}
use Rattle.nsc_model.specs.declared.kind.Db.TheVariants as db
use Rattle.nsc_model.specs.declared.conf.DbConf.{DbConf}
use Rattle.nsc_model.specs.declared.databases.Databases.{Databases}
use Rattle.nsc_model.specs.declared.store.Store as store
use Rattle.nsc_model.specs.Databases.{database_in}
use Rattle.nsc_model.specs.History.{IsPrefix}
use Rattle.nsc_model.specs.Stores.{PassAt}

-- each store is of the database that its field names
pub record AreNamed {S P : Type 0} (g : store.Ghosts S P) (stores : Databases S) : Type 0 where
  pub passwd_is : g.db stores.passwd ≡ db.Passwd
  pub group_is : g.db stores.group ≡ db.Group
  pub hosts_is : g.db stores.hosts ≡ db.Hosts
  pub services_is : g.db stores.services ≡ db.Services

-- each pass is one of its store
pub record ArePasses {S P : Type 0} (g : store.Ghosts S P) (stores : Databases S) (passes : Databases P) : Type 0 where
  pub passwd_is : g.is_pass stores.passwd passes.passwd
  pub group_is : g.is_pass stores.group passes.group
  pub hosts_is : g.is_pass stores.hosts passes.hosts
  pub services_is : g.is_pass stores.services passes.services

-- the settings of each store
abbrev pub settings_of : {S P : Type 0} → store.Ghosts S P → Databases S → Databases DbConf
settings_of g stores =
    record { passwd = g.settings stores.passwd; group = g.settings stores.group; hosts = g.settings stores.hosts; services = g.settings stores.services }

-- each pass at a moment
abbrev pub passes_at : {S P : Type 0} → store.Ghosts S P → Databases P → Databases PassAt
passes_at g passes = record { passwd = g.at passes.passwd; group = g.at passes.group; hosts = g.at passes.hosts; services = g.at passes.services }

-- what each pass had seen is the beginning of what it has seen
pub record SawMore (before after : Databases PassAt) : Type 0 where
  pub passwd_saw : IsPrefix before.passwd.seen after.passwd.seen
  pub group_saw : IsPrefix before.group.seen after.group.seen
  pub hosts_saw : IsPrefix before.hosts.seen after.hosts.seen
  pub services_saw : IsPrefix before.services.seen after.services.seen

-- all but one of them are as before
abbrev pub OthersThan : Db → Databases PassAt → Databases PassAt → Type 0
OthersThan one before after = (other : Db) → other ≢ one → database_in after other ≡ database_in before other
