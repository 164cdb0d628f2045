-- The settings of nscd.conf(5): of one database, and those that hold where no line says otherwise.
use Rattle.std.specs.Prelude.{ℕ, true, false, Some}
use Rattle.nsc_model.specs.declared.conf.Conf.{Conf}
use Rattle.nsc_model.specs.declared.conf.DbConf.{DbConf}
use Rattle.nsc_model.specs.declared.kind.Db.{Db}
use Rattle.nsc_model.specs.declared.kind.Db.TheVariants as db

abbrev pub settings_of : Conf → Db → DbConf
settings_of settings db.Passwd = settings.passwd
settings_of settings db.Group = settings.group
settings_of settings db.Hosts = settings.hosts
settings_of settings db.Services = settings.services

-- a cached database: for how many seconds found and not-found replies live, and all else as it is by default. A change of
-- its files invalidates it, its table takes at most 32 MiB, and it neither outlives the daemon nor is shared with clients
abbrev pub cached_for : ℕ → ℕ → DbConf
cached_for positive negative = record { enabled = true; positive = positive; negative = negative; size = 211; check_files = true; persistent = false; shared = false; max_size = 33554432; propagate = true }

-- found replies live an hour, and those of services eight hours; not-found replies live twenty seconds, and those of
-- groups a minute
abbrev pub default_settings : Conf
default_settings = record { passwd = cached_for 3600 20; group = cached_for 3600 60; hosts = cached_for 3600 20; services = cached_for 28800 20; reloads = Some 5; threads = 5 }
