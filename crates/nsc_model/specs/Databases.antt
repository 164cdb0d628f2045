-- One value for each database, and that of one of them.
use Rattle.std.specs.Borrow.{Fml, Lends, MutBor, RattleType}
use Rattle.nsc_model.specs.declared.kind.Db.{Db}
use Rattle.nsc_model.specs.declared.kind.Db.TheVariants as db
use Rattle.nsc_model.specs.declared.databases.Databases.{Databases}
use Rattle.nsc_model.specs.contracts.databases.Databases.{the_row}

abbrev pub database_in : {T : Type 0} → Databases T → Db → T
database_in all db.Passwd = all.passwd
database_in all db.Group = all.group
database_in all db.Hosts = all.hosts
database_in all db.Services = all.services

-- one of them becomes this, and the others stay
abbrev pub with_database : {T : Type 0} → Databases T → Db → T → Databases T
with_database all db.Passwd one = record all { passwd = one }
with_database all db.Group one = record all { group = one }
with_database all db.Hosts one = record all { hosts = one }
with_database all db.Services one = record all { services = one }

-- one of them ends as the last value written through r
module _ (T : RattleType) where
  abbrev pub LendsDatabase : MutBor (Databases T.Denot) → Db → MutBor T.Denot → Fml
  LendsDatabase all which r = Lends (the_row T) T all r (with_database all.now which)
