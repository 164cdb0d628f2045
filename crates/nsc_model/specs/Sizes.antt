-- The sizes that a cache can have.
use Rattle.std.specs.Prelude.{◌≤◌}
use Rattle.nsc_model.specs.declared.conf.Conf.{Conf}
use Rattle.nsc_model.specs.declared.conf.DbConf.{DbConf}

-- a database has a size that a cache can have
pub record SizeFits (settings : DbConf) : Type 0 where
  pub some : 1 ≤ settings.size
  pub fit : settings.size ≤ 65536

-- each database has one
pub record SizesFit (settings : Conf) : Type 0 where
  pub passwd : SizeFits settings.passwd
  pub group : SizeFits settings.group
  pub hosts : SizeFits settings.hosts
  pub services : SizeFits settings.services
