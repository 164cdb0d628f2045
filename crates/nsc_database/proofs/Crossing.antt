-- Databases may be shared, and their passes go to other threads.
use denote.RattleType.{RattleType}
use denote.Enum.Declared.{shape}
use denote.Param.Send.{IsSend, IsSync, enum_send, enum_sync, sendable}
use Rattle.std.proofs.Crossing.{crosses}
use Rattle.nsc_base.specs.contracts.buf.Buf as buf
use Rattle.nsc_model.specs.declared.answerer.Answerer as answerer
use Rattle.nsc_outside.specs.declared.files.FileSet as file_set
use Rattle.nsc_seats.proofs.Crossing.{left-send, seats-send}
use Rattle.nsc_writer.proofs.Crossing.{writer-send}
use Rattle.nsc_sourcebook.proofs.Crossing.{book-send}
use Rattle.nsc_database.specs.declared.room.Room as room
use Rattle.nsc_database.specs.declared.room.OfDb as of_db
use Rattle.nsc_database.specs.contracts.room.OfPasswd as passwd
use Rattle.nsc_database.specs.contracts.room.OfPasswdOfDb.TheImpl as of_passwd
use Rattle.nsc_database.specs.contracts.room.OfGroup as group
use Rattle.nsc_database.specs.contracts.room.OfGroupOfDb.TheImpl as of_group
use Rattle.nsc_database.specs.contracts.room.OfHosts as hosts
use Rattle.nsc_database.specs.contracts.room.OfHostsOfDb.TheImpl as of_hosts
use Rattle.nsc_database.specs.contracts.room.OfServices as services
use Rattle.nsc_database.specs.contracts.room.OfServicesOfDb.TheImpl as of_services
use Rattle.nsc_database.specs.contracts.desk.Desk as desk
use Rattle.nsc_database.specs.contracts.shelved.Shelved as shelved
use Rattle.nsc_database.specs.contracts.base.Base as base
use Rattle.nsc_database.specs.contracts.database.Bases as bases
use Rattle.nsc_database.specs.contracts.database.Database as database
use Rattle.nsc_database.specs.contracts.pass.DbPass as db_pass

buf-send : IsSend buf.the_row
buf-send = search (sendable, crosses) depth 30

passwd-send : IsSend passwd.the_row
passwd-send = search sendable

group-send : IsSend group.the_row
group-send = search sendable

hosts-send : IsSend hosts.the_row
hosts-send = search sendable

services-send : IsSend services.the_row
services-send = search sendable

pub pass-send : (F B : RattleType) (f : file_set.Ghosts F.Denot) (r : room.Ghosts B.Denot) → IsSend F → IsSend B → IsSend (db_pass.the_row F B f r)
pass-send F B f r files b = search (sendable, crosses, seats-send, buf-send) depth 30

desk-send : (D B : RattleType) (o : of_db.Ghosts D.Denot) (r : room.Ghosts B.Denot) → IsSend D → IsSend B → IsSend (desk.the_row D B o r)
desk-send D B o r d b = search (sendable, crosses, writer-send, left-send) depth 30

module _ (F A B R : RattleType) (f : file_set.Ghosts F.Denot) (a : answerer.Ghosts A.Denot R.Denot) (r : room.Ghosts B.Denot) (files : IsSend F) (answers : IsSync A) (b : IsSend B) (ready : IsSend R) (shared : IsSync R) where
  shelved-send : (D : RattleType) (o : of_db.Ghosts D.Denot) → IsSend D → IsSend (shelved.the_row D F A B R o f a r)
  shelved-send D o d = search (sendable, crosses, book-send) depth 30

  base-sync : (D : RattleType) (o : of_db.Ghosts D.Denot) → IsSend D → IsSync (base.the_field D F A B R o f a r).row
  base-sync D o d = search (sendable, crosses, desk-send, shelved-send) depth 30

  bases-sync : IsSync (bases.the_field F A B R f a r).row
  bases-sync = enum_sync (shape (bases.the_type F A B R f a r)) (
    (base-sync passwd.the_row of_passwd.ghosts passwd-send, tt),
    ((base-sync group.the_row of_group.ghosts group-send, tt), ((base-sync hosts.the_row of_hosts.ghosts hosts-send, tt), ((base-sync services.the_row of_services.ghosts services-send, tt), tt))),
  )

  pub database-sync : IsSync (database.the_row F A B R f a r)
  database-sync = search (sendable, crosses, bases-sync) depth 30

  base-send : (D : RattleType) (o : of_db.Ghosts D.Denot) → IsSend A → IsSend D → IsSend (base.the_field D F A B R o f a r).row
  base-send D o owned d = search (sendable, crosses, desk-send, shelved-send) depth 30

  bases-send : IsSend A → IsSend (bases.the_field F A B R f a r).row
  bases-send owned = enum_send (shape (bases.the_type F A B R f a r)) (
    (base-send passwd.the_row of_passwd.ghosts owned passwd-send, tt),
    ((base-send group.the_row of_group.ghosts owned group-send, tt), ((base-send hosts.the_row of_hosts.ghosts owned hosts-send, tt), ((base-send services.the_row of_services.ghosts owned services-send, tt), tt))),
  )

  pub database-send : IsSend A → IsSend (database.the_row F A B R f a r)
  database-send owned = search (sendable, crosses, bases-send) depth 30
