-- The four databases that a daemon opens, and their tables in a room.
use Rattle.std.specs.Prelude.{◌≡◌, ℕ, Option}
use Rattle.nsc_model.specs.Content.{Content}
use Rattle.nsc_model.specs.Settings.{settings_of}
use Rattle.nsc_model.specs.declared.conf.Conf.{Conf}
use Rattle.nsc_model.specs.declared.conf.DbConf.{DbConf}
use Rattle.nsc_model.specs.declared.kind.Db.{Db}
use Rattle.nsc_model.specs.declared.kind.Db.TheVariants as db_is

-- what was opened is this database, with its settings and the limit of reloads of this configuration; and its files hold what is told
abbrev pub IsOpenedBy : Conf → Db → Option Content → Db → DbConf → Option ℕ → Option Content → Type 0
IsOpenedBy conf which held db settings reloads holds =
    (db ≡ which) × (settings ≡ settings_of conf which) × (reloads ≡ conf.reloads) × (holds ≡ held)

-- the tables of the four databases are those that a room names
abbrev pub AreTables : {T : Type 0} → (Db → T) → T → T → T → T → Type 0
AreTables table passwd group hosts services =
    (passwd ≡ table db_is.Passwd) × (group ≡ table db_is.Group) × (hosts ≡ table db_is.Hosts) × (services ≡ table db_is.Services)
