-- Whoever serves the gate sees stores and passes by the database.
use Rattle.nsc_model.specs.declared.databases.Databases.{Databases}
use Rattle.nsc_model.specs.declared.kind.Db.TheVariants as db
use Rattle.nsc_model.specs.declared.store.Store as store
use Rattle.nsc_server.specs.Passes as served
use Rattle.nsc_client.specs.Gate as gate

pub by_name : {S P : Type 0} (g : store.Ghosts S P) (stores : Databases S) → served.AreNamed g stores → gate.AreNamed g stores
by_name g stores named db.Passwd = named.passwd_is
by_name g stores named db.Group = named.group_is
by_name g stores named db.Hosts = named.hosts_is
by_name g stores named db.Services = named.services_is

pub by_pass : {S P : Type 0} (g : store.Ghosts S P) (stores : Databases S) (passes : Databases P) → served.ArePasses g stores passes → gate.ArePasses g stores passes
by_pass g stores passes are db.Passwd = are.passwd_is
by_pass g stores passes are db.Group = are.group_is
by_pass g stores passes are db.Hosts = are.hosts_is
by_pass g stores passes are db.Services = are.services_is
