-- What is answered over a content: the outcome of each service, the switch over a service list (nsswitch.conf(5)), and the reply's bytes.
use Rattle.std.specs.Prelude.{ℕ, ◌==◌, nat_le, Bool, true, false, not, ◌&&◌, if◌then◌else◌, List, [], ◌∷◌, ◌++◌, length, map, filter, flat_map, decimal, Option, Some, None}
use Rattle.std.specs.List.{list_any}
use Rattle.std.specs.Str.{bytes_eq}
use Rattle.nsc_model.specs.declared.kind.Kind.{Kind}
use Rattle.nsc_model.specs.declared.kind.Kind.TheVariants as kind
use Rattle.nsc_model.specs.declared.answer.Request.{Request}
use Rattle.nsc_base.specs.Decimal.{decimal_of}
use Rattle.nsc_model.specs.declared.row.Passwd.{Passwd}
use Rattle.nsc_model.specs.declared.row.Group.{Group}
use Rattle.nsc_model.specs.declared.row.Host.{Host}
use Rattle.nsc_model.specs.declared.row.Ai.{Ai}
use Rattle.nsc_model.specs.declared.row.Service.{Service}
use Rattle.nsc_model.specs.declared.row.Row.{Row}
use Rattle.nsc_model.specs.declared.row.Row.TheVariants as row
use Rattle.nsc_model.specs.declared.row.Looked.{Looked}
use Rattle.nsc_model.specs.declared.row.Looked.TheVariants.{Found, NotFound, Unavail}
use Rattle.nsc_model.specs.declared.row.Reply.TheVariants as reply
use Rattle.nsc_model.specs.declared.kind.Db.{Db}
use Rattle.nsc_model.specs.declared.kind.Db.TheVariants as db
use Rattle.nsc_model.specs.Kinds.{database_of}
use Rattle.nsc_model.specs.Content.{Content}
use Rattle.nsc_model.specs.Answer.{Answer}
use Rattle.nsc_model.specs.Wire.{group_found, spelled}
use Rattle.nsc_base.specs.Text.{lines_of}
use Rattle.nsc_model.specs.Entries.{named_in, first_named}
use Rattle.nsc_model.specs.Users.{user_of_line}
use Rattle.nsc_model.specs.Groups.{group_of_line, has_member}
use Rattle.nsc_model.specs.Hosts.{family_once, host_addressed, host_has_name, host_named, host_of_line, ipv4, ipv6}
use Rattle.nsc_model.specs.ServiceLines.{ServiceKey, exchanged, port_of, service_key, service_named, service_of_line, service_ported}
use Rattle.nsc_model.specs.declared.switch.SwitchService.{SwitchService}
use Rattle.nsc_model.specs.declared.switch.SwitchService.TheVariants as service
use Rattle.nsc_model.specs.declared.switch.SwitchStep.{SwitchStep}
use Rattle.nsc_model.specs.declared.switch.SwitchAction.{SwitchAction}
use Rattle.nsc_model.specs.declared.switch.SwitchAction.TheVariants.{Return, Continue, Merge}
use Rattle.nsc_model.specs.Services.{action_at}
use Rattle.nsc_model.specs.Switches.{compat_list, service_list}
use Rattle.nsc_model.specs.Compat.{IdScan, Scan, gathered, replaced_user, sayings, scanned_file}

-- ---- ways to name an entry

abbrev pub is_id : Option ℕ → ℕ → Bool
is_id None id = false
is_id (Some n) id = id == n

abbrev pub user_named : List ℕ → Passwd → Bool
user_named key p = bytes_eq p.name key

-- a key that is no number in decimal names nothing
abbrev pub user_numbered : List ℕ → Passwd → Bool
user_numbered key p = is_id (decimal_of key) p.uid

abbrev pub group_named : List ℕ → Group → Bool
group_named key g = bytes_eq g.name key

abbrev pub group_numbered : List ℕ → Group → Bool
group_numbered key g = is_id (decimal_of key) g.gid

-- ---- the answer of a file

-- the first entry that is named is found
abbrev pub found_first : {A : Type 0} → (A → Row) → Option A → Looked
found_first row_of None = NotFound
found_first row_of (Some entry) = Found (row_of entry)

-- over a file: the first entry that the request names
abbrev pub file_entry : {A : Type 0} → (A → Row) → (List ℕ → Option A) → (A → Bool) → Option (List ℕ) → Looked
file_entry row_of entry_of names None = Unavail
file_entry row_of entry_of names (Some file) = found_first row_of (first_named entry_of names file)

-- numbers, each once, at its first place
abbrev pub each_once : List ℕ → List ℕ
each_once [] = []
each_once (n ∷ numbers) = n ∷ filter (λ m. not (m == n)) (each_once numbers)

abbrev pub found_ids : List ℕ → Looked
found_ids [] = NotFound
found_ids (id ∷ ids) = Found (row.Groups (id ∷ ids))

-- the ids of the groups that have the user as a member, in the order of the file
abbrev pub ids_of : List ℕ → List ℕ → List ℕ
ids_of user file = each_once (map (λ g. g.gid) (named_in group_of_line (has_member user) file))

abbrev pub file_ids : List ℕ → Option (List ℕ) → Looked
file_ids user None = Unavail
file_ids user (Some file) = found_ids (ids_of user file)

-- the addresses of a host: those of its first entry of each family, with the name of the first of these
abbrev pub all_addresses : List Host → Option Ai
all_addresses [] = None
all_addresses (h ∷ hosts) = Some (record { list = map (λ host. record { family = host.family; address = host.address }) (h ∷ hosts); canon = h.name })

abbrev pub addresses_of : List ℕ → List ℕ → Option Ai
addresses_of name file = all_addresses (family_once (named_in host_of_line (host_has_name name) file))

abbrev pub file_addresses : List ℕ → Option (List ℕ) → Looked
file_addresses name None = Unavail
file_addresses name (Some file) = found_first row.Ai (addresses_of name file)

-- a service by the name or the port of a key, and by its protocol where it has one; a key that has no port in decimal,
-- with its bytes exchanged, names nothing
abbrev pub key_named : ServiceKey → Service → Bool
key_named key s = service_named key.asked key.proto s

abbrev pub is_port : Option ℕ → List ℕ → Service → Bool
is_port None proto s = false
is_port (Some port) proto s = service_ported (exchanged port) proto s

abbrev pub key_ported : ServiceKey → Service → Bool
key_ported key s = is_port (port_of key.asked) key.proto s

-- a request over the bytes of one file, by the request's kind; no service answers for netgroups yet
abbrev pub answer_by : Kind → Option (List ℕ) → List ℕ → Looked
answer_by kind.PwName file key = file_entry row.Passwd user_of_line (user_named key) file
answer_by kind.PwUid file key = file_entry row.Passwd user_of_line (user_numbered key) file
answer_by kind.GrName file key = file_entry row.Group group_of_line (group_named key) file
answer_by kind.GrGid file key = file_entry row.Group group_of_line (group_numbered key) file
answer_by kind.InitGroups file key = file_ids key file
answer_by kind.HostName file key = file_entry row.Host host_of_line (host_named ipv4 key) file
answer_by kind.HostName6 file key = file_entry row.Host host_of_line (host_named ipv6 key) file
answer_by kind.HostAddr file key = file_entry row.Host host_of_line (host_addressed key) file
answer_by kind.HostAddr6 file key = file_entry row.Host host_of_line (host_addressed key) file
answer_by kind.Ai file key = file_addresses key file
answer_by kind.ServName file key = file_entry row.Service service_of_line (key_named (service_key key)) file
answer_by kind.ServPort file key = file_entry row.Service service_of_line (key_ported (service_key key)) file
answer_by kind.NetgrEnt file key = Unavail
answer_by kind.InNetgr file key = Unavail

abbrev pub file_answer : Option (List ℕ) → Request → Looked
file_answer file request = answer_by request.kind file request.key

-- the file that the service `files` reads for a database
abbrev pub own_file : Db → Content → Option (List ℕ)
own_file db.Passwd files = files.passwd
own_file db.Group files = files.group
own_file db.Hosts files = files.hosts
own_file db.Services files = files.services

-- the file that the service `extrausers` reads for a database: users and groups have one
abbrev pub extra_file : Db → Content → Option (List ℕ)
extra_file db.Passwd files = files.extra_passwd
extra_file db.Group files = files.extra_group
extra_file db.Hosts files = None
extra_file db.Services files = None

-- the outcome of a service that reads one file, whichever list it stands in; within a compat list `compat` is unavailable, as
-- is what is not built in
abbrev pub sub_answer : Content → Request → SwitchService → Looked
sub_answer files request service.Files = file_answer (own_file (database_of request.kind) files) request
sub_answer files request service.Compat = Unavail
sub_answer files request service.Extrausers = file_answer (extra_file (database_of request.kind) files) request
sub_answer files request service.Other = Unavail

-- ---- rows that the action merge joins, nsswitch.conf(5)

-- the longest reply of a joined group, in bytes; this limit is the project's choice
abbrev pub join_limit : ℕ
join_limit = 134217728

-- a group with the members of another group after its own
abbrev pub with_members : Group → Group → Group
with_members h g = record h { members = h.members ++ g.members }

-- a held group takes the members of a later group if names and ids are equal and its reply then has
-- at most `join_limit` bytes; else it stays as it is
abbrev pub joined_group : Group → Group → Group
joined_group h g =
    if bytes_eq h.name g.name && h.gid == g.gid && nat_le (length (group_found (with_members h g))) join_limit then with_members h g else h

-- ids, and then the ids of another list that the first list lacks
abbrev pub joined_ids : List ℕ → List ℕ → List ℕ
joined_ids ids others = ids ++ filter (λ id. not (list_any (λ other. other == id) ids)) others

-- a held row joined with the row that a later service found
abbrev pub joined_row : Row → Row → Row
joined_row (row.Group h) (row.Group g) = row.Group (joined_group h g)
joined_row (row.Groups ids) (row.Groups others) = row.Groups (joined_ids ids others)
joined_row h _ = h

-- an outcome joined to the held row, if there is one
abbrev pub joined : Option Row → Looked → Looked
joined None outcome = outcome
joined (Some held) (Found found) = Found (joined_row held found)
joined (Some held) NotFound = Found held
joined (Some held) Unavail = Found held

-- the row of an outcome, if it found one
abbrev pub row_in : Looked → Option Row
row_in (Found found) = Some found
row_in NotFound = None
row_in Unavail = None

-- the kinds whose rows are joined
abbrev pub is_joined : Kind → Bool
is_joined kind.GrName = true
is_joined kind.GrGid = true
is_joined kind.InitGroups = true
is_joined _ = false

-- whether a merge goes on: a row of such a kind was found
abbrev pub merges : Kind → Looked → Bool
merges by (Found found) = is_joined by
merges by NotFound = false
merges by Unavail = false

-- the outcome from a step on that is not the last; `next` is the outcome of the later steps over what is held then
abbrev pub stepped : Kind → SwitchAction → Option Row → Looked → (Option Row → Looked) → Looked
stepped by Return held outcome next = joined held outcome
stepped by Merge held outcome next = if merges by outcome then next (row_in (joined held outcome)) else joined held outcome
stepped by Continue held outcome next = next held

-- the services in turn, each with its outcome, over the held row, if there is one: the switch ends at a step whose
-- action at the status of its own outcome is to return, at a merge that does not go on, and at the last step
abbrev pub switched_on : Kind → (SwitchService → Looked) → Option Row → List SwitchStep → Looked
switched_on by look held [] = joined held Unavail
switched_on by look held (step ∷ []) = joined held (look step.service)
switched_on by look held (step ∷ next ∷ steps) =
    let outcome = look step.service in
    stepped by (action_at step outcome) held outcome (λ row. switched_on by look row (next ∷ steps))

-- at first no row is held
abbrev pub switched : Kind → (SwitchService → Looked) → List SwitchStep → Looked
switched by look steps = switched_on by look None steps

-- ---- compat lines

-- a request over the services of the compat list
abbrev pub sub_looked : Content → Db → Kind → List ℕ → Looked
sub_looked files database kind key = switched kind (sub_answer files (record { kind = kind; key = key })) (compat_list files database)

abbrev pub user_in : Looked → Option Passwd
user_in (Found (row.Passwd p)) = Some p
user_in _ = None

abbrev pub group_in : Looked → Option Group
group_in (Found (row.Group g)) = Some g
group_in _ = None

-- users, and groups, of a request of this kind and key that names entries so
abbrev pub user_scan : Content → Kind → List ℕ → (Passwd → Bool) → Scan Passwd
user_scan files by key names = record {
  entry_of = user_of_line;
  name_of = λ p. p.name;
  names = names;
  by_name = λ name. user_in (sub_looked files db.Passwd kind.PwName name);
  asked = user_in (sub_looked files db.Passwd by key);
  replaced = replaced_user;
  found = λ p. Found (row.Passwd p);
}

abbrev pub group_scan : Content → Kind → List ℕ → (Group → Bool) → Scan Group
group_scan files by key names = record {
  entry_of = group_of_line;
  name_of = λ g. g.name;
  names = names;
  by_name = λ name. group_in (sub_looked files db.Group kind.GrName name);
  asked = group_in (sub_looked files db.Group by key);
  replaced = λ fields g. g;
  found = λ g. Found (row.Group g);
}

-- the services whose outcomes a switch takes, in the order of the steps: each that merged, and the one at which it
-- ends; `later` are those of the later steps
abbrev pub taken_at : Kind → SwitchAction → Looked → SwitchService → List SwitchService → List SwitchService
taken_at by Return outcome service later = service ∷ []
taken_at by Merge outcome service later = if merges by outcome then service ∷ later else service ∷ []
taken_at by Continue outcome service later = later

abbrev pub takers : Kind → (SwitchService → Looked) → List SwitchStep → List SwitchService
takers by look [] = []
takers by look (step ∷ []) = step.service ∷ []
takers by look (step ∷ next ∷ steps) =
    let outcome = look step.service in
    taken_at by (action_at step outcome) outcome step.service (takers by look (next ∷ steps))

-- the names and ids of the groups of a file that have the user as a member, in its order, none dropped
abbrev pub pairs_of : List ℕ → Option (List ℕ) → List (List ℕ × ℕ)
pairs_of user None = []
pairs_of user (Some file) = map (λ g. (g.name, g.gid)) (named_in group_of_line (has_member user) file)

abbrev pub service_pairs : Content → List ℕ → SwitchService → List (List ℕ × ℕ)
service_pairs files user service.Files = pairs_of user files.group
service_pairs files user service.Compat = []
service_pairs files user service.Extrausers = pairs_of user files.extra_group
service_pairs files user service.Other = []

-- those of each service whose rows the compat list takes; where none found a group, there are none
abbrev pub named_groups : Content → List ℕ → List (List ℕ × ℕ)
named_groups files user =
    flat_map (service_pairs files user) (takers kind.InitGroups (sub_answer files (record { kind = kind.InitGroups; key = user })) (compat_list files db.Group))

abbrev pub id_scan : Content → List ℕ → IdScan
id_scan files user = record {
  group_of = group_of_line;
  has_user = has_member user;
  by_name = λ name. group_in (sub_looked files db.Group kind.GrName name);
  pairs = named_groups files user;
}

-- each id once; a netgroup is unavailable
abbrev pub found_or_unavail : Option (List ℕ) → Looked
found_or_unavail None = Unavail
found_or_unavail (Some ids) = found_ids (each_once ids)

abbrev pub gathered_file : IdScan → Option (List ℕ) → Looked
gathered_file scan None = Unavail
gathered_file scan (Some file) = found_or_unavail (gathered scan (flat_map sayings (lines_of file)) [])

-- the outcome of compat: users and groups have it
abbrev pub compat_by : Kind → Content → List ℕ → Looked
compat_by kind.PwName files key = scanned_file (user_scan files kind.PwName key (user_named key)) files.passwd
compat_by kind.PwUid files key = scanned_file (user_scan files kind.PwUid key (user_numbered key)) files.passwd
compat_by kind.GrName files key = scanned_file (group_scan files kind.GrName key (group_named key)) files.group
compat_by kind.GrGid files key = scanned_file (group_scan files kind.GrGid key (group_numbered key)) files.group
compat_by kind.InitGroups files key = gathered_file (id_scan files key) files.group
compat_by _ files key = Unavail

unfoldable pub compat_answer : Content → Request → Looked
compat_answer files request = compat_by request.kind files request.key

-- ---- the switch

-- the outcome of a service
abbrev pub service_answer : Content → Request → SwitchService → Looked
service_answer files request service.Files = sub_answer files request service.Files
service_answer files request service.Compat = compat_answer files request
service_answer files request service.Extrausers = sub_answer files request service.Extrausers
service_answer files request service.Other = Unavail

-- what an outcome is on the wire: the found reply, or else the not-found header with its mark
abbrev pub marked : Kind → Looked → Answer
marked kind (Found found) = record { bytes = spelled kind (reply.Found found); not_found = false }
marked kind NotFound = record { bytes = spelled kind reply.Absent; not_found = true }
marked kind Unavail = record { bytes = spelled kind reply.Absent; not_found = true }

-- the outcome of the switch over the service list of the request's database
abbrev pub looked_up : Content → Request → Looked
looked_up files request = switched request.kind (service_answer files request) (service_list files (database_of request.kind))

-- the answer to a request over a content
unfoldable pub answer_of : Content → Request → Answer
answer_of files request = marked request.kind (looked_up files request)

-- ---- the request by id beside a request by name

-- the request by id for a found row of a request by name; there is none for any other
abbrev pub id_request : Kind → Looked → Option Request
id_request kind.PwName (Found (row.Passwd p)) = Some (record { kind = kind.PwUid; key = decimal p.uid })
id_request kind.GrName (Found (row.Group g)) = Some (record { kind = kind.GrGid; key = decimal g.gid })
id_request _ _ = None

-- the request by id for the row that the switch finds over a content
abbrev pub request_beside : Content → Request → Option Request
request_beside files request = id_request request.kind (looked_up files request)
