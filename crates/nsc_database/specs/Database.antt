-- What a database is: which one, its settings, and after how many reloads without a use an entry is dropped.
use Rattle.std.specs.Prelude.{ℕ, Option}
use Rattle.nsc_model.specs.declared.kind.Db.{Db}
use Rattle.nsc_model.specs.declared.conf.DbConf.{DbConf}

pub record Database : Type 0 where
  pub db : Db
  pub settings : DbConf
  pub reloads : Option ℕ
