-- The machine of a replay: its settings and its state, and what its databases keep of them.
use Rattle.std.specs.Prelude.{◌≡◌, ℕ, ◌≤◌}
use Rattle.nsc_model.specs.declared.kind.Db.{Db}
use Rattle.nsc_model.specs.declared.kind.Db.TheVariants as db
use Rattle.nsc_model.specs.Content.{Content}
use Rattle.nsc_model.specs.Files.{part_of}
use Rattle.nsc_model.specs.declared.conf.Conf.{Conf}
use Rattle.nsc_model.specs.Settings.{settings_of}
use Rattle.nsc_model.specs.Replay.{State, last_moment}
use Rattle.nsc_model.specs.declared.databases.Databases.{Databases}
use Rattle.nsc_replay.specs.Cached.{Cached}

pub record Machine : Type 0 where
  pub settings : Conf
  pub state : State

-- the state of these files and databases, at this moment
abbrev pub state_of : Content → ℕ → Databases Cached → State
state_of files moment databases = record {
  files = files;
  moment = moment;
  caches = record { passwd = databases.passwd.writer.cache; group = databases.group.writer.cache; hosts = databases.hosts.writer.cache; services = databases.services.writer.cache };
  ticked = record { passwd = databases.passwd.ticked; group = databases.group.ticked; hosts = databases.hosts.ticked; services = databases.services.ticked };
}

-- a database has its settings, and reads its part of the files
pub record HasOwn (which : Db) (settings : Conf) (files : Content) (cached : Cached) : Type 0 where
  pub own : cached.settings ≡ settings_of settings which
  pub limit : cached.reloads ≡ settings.reloads
  pub part : cached.files ≡ part_of which files

-- so does each of them, and the moment is not later than the last one
pub record Agrees (settings : Conf) (files : Content) (moment : ℕ) (databases : Databases Cached) : Type 0 where
  pub passwd : HasOwn db.Passwd settings files databases.passwd
  pub group : HasOwn db.Group settings files databases.group
  pub hosts : HasOwn db.Hosts settings files databases.hosts
  pub services : HasOwn db.Services settings files databases.services
  pub in_time : moment ≤ last_moment
