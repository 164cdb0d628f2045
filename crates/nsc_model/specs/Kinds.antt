-- Databases, kinds of lookups and files, with their numbers (glibc's nscd-client.h, protocol version 2).
use Rattle.std.specs.Prelude.{ℕ, Bool, true, false, ◌==◌, ◌&&◌, if◌then◌else◌, List, [], ◌∷◌, Option, Some, None, codes}
use Rattle.std.specs.Str.{bytes_eq}
use Rattle.nsc_model.specs.declared.kind.Db.{Db}
use Rattle.nsc_model.specs.declared.kind.Db.TheVariants as db
use Rattle.nsc_model.specs.declared.kind.Kind.{Kind}
use Rattle.nsc_model.specs.declared.kind.Kind.TheVariants.{PwName, PwUid, GrName, GrGid, HostName, HostName6, HostAddr, HostAddr6, Ai, InitGroups, ServName, ServPort, NetgrEnt, InNetgr}
use Rattle.nsc_model.specs.declared.kind.FileId.{FileId}
use Rattle.nsc_model.specs.declared.kind.FileId.TheVariants as file
use Rattle.nsc_model.specs.declared.answer.Request.{Request}

-- the database of a kind
abbrev pub database_of : Kind → Db
database_of PwName = db.Passwd
database_of PwUid = db.Passwd
database_of GrName = db.Group
database_of GrGid = db.Group
database_of HostName = db.Hosts
database_of HostName6 = db.Hosts
database_of HostAddr = db.Hosts
database_of HostAddr6 = db.Hosts
database_of Ai = db.Hosts
database_of InitGroups = db.Group
database_of ServName = db.Services
database_of ServPort = db.Services
database_of NetgrEnt = db.Passwd
database_of InNetgr = db.Passwd

-- the database of a number in replay frames
abbrev pub db_numbered : ℕ → Option Db
db_numbered n =
    if n == 0 then Some db.Passwd else (
    if n == 1 then Some db.Group else (
    if n == 2 then Some db.Hosts else (
    if n == 3 then Some db.Services else None)))

-- the name of a database, as nscd.conf(5) has it, and the database of a name
abbrev pub name_of : Db → List ℕ
name_of db.Passwd = codes "passwd"
name_of db.Group = codes "group"
name_of db.Hosts = codes "hosts"
name_of db.Services = codes "services"

abbrev pub db_named : List ℕ → Option Db
db_named name =
    if bytes_eq name (name_of db.Passwd) then Some db.Passwd else (
    if bytes_eq name (name_of db.Group) then Some db.Group else (
    if bytes_eq name (name_of db.Hosts) then Some db.Hosts else (
    if bytes_eq name (name_of db.Services) then Some db.Services else None)))

-- the request type of a kind
abbrev pub type_number : Kind → ℕ
type_number PwName = 0
type_number PwUid = 1
type_number GrName = 2
type_number GrGid = 3
type_number HostName = 4
type_number HostName6 = 5
type_number HostAddr = 6
type_number HostAddr6 = 7
type_number Ai = 14
type_number InitGroups = 15
type_number ServName = 16
type_number ServPort = 17
type_number NetgrEnt = 19
type_number InNetgr = 20

-- the kind of a request type, where it is a lookup
abbrev pub kind_numbered : ℕ → Option Kind
kind_numbered n =
    if n == 0 then Some PwName else (
    if n == 1 then Some PwUid else (
    if n == 2 then Some GrName else (
    if n == 3 then Some GrGid else (
    if n == 4 then Some HostName else (
    if n == 5 then Some HostName6 else (
    if n == 6 then Some HostAddr else (
    if n == 7 then Some HostAddr6 else (
    if n == 14 then Some Ai else (
    if n == 15 then Some InitGroups else (
    if n == 16 then Some ServName else (
    if n == 17 then Some ServPort else (
    if n == 19 then Some NetgrEnt else (
    if n == 20 then Some InNetgr else None)))))))))))))

-- whether a kind asks for a netgroup
abbrev pub is_netgroup : Kind → Bool
is_netgroup NetgrEnt = true
is_netgroup InNetgr = true
is_netgroup _ = false

-- every file, in the order of their numbers
abbrev pub all_files : List FileId
all_files = file.Switch ∷ file.Passwd ∷ file.Group ∷ file.Hosts ∷ file.Services ∷ file.ExtraPasswd ∷ file.ExtraGroup ∷ file.Netgroup ∷ []

-- the number of a file in replay frames
abbrev pub file_number : FileId → ℕ
file_number file.Switch = 0
file_number file.Passwd = 1
file_number file.Group = 2
file_number file.Hosts = 3
file_number file.Services = 4
file_number file.ExtraPasswd = 5
file_number file.ExtraGroup = 6
file_number file.Netgroup = 7

abbrev pub file_numbered : ℕ → Option FileId
file_numbered n =
    if n == 0 then Some file.Switch else (
    if n == 1 then Some file.Passwd else (
    if n == 2 then Some file.Group else (
    if n == 3 then Some file.Hosts else (
    if n == 4 then Some file.Services else (
    if n == 5 then Some file.ExtraPasswd else (
    if n == 6 then Some file.ExtraGroup else (
    if n == 7 then Some file.Netgroup else None)))))))

-- two requests are one: the same kind, and the same bytes of the key
abbrev pub is_request : Request → Request → Bool
is_request a b = type_number a.kind == type_number b.kind && bytes_eq a.key b.key
