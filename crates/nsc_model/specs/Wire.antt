-- Requests and replies as bytes: protocol version 2 of glibc's nscd-client.h, in little-endian fields of four bytes.
use Rattle.std.specs.Prelude.{◌≡◌, ◌≢◌, ◌⊎◌, ℕ, ◌+◌, ◌/◌, ◌%◌, ◌≤◌, ◌<◌, ◌^◌, ℤ, Bool, ◌==◌, nat_lt, if◌then◌else◌, List, [], ◌∷◌, ◌++◌, length, map, take, drop, flat_map, All, Option, Some, None}
use Rattle.std.specs.List.{before_first}
use Rattle.byteorder.specs.Endian.{little_number, little_bytes, twos_complement}
use Rattle.nsc_model.specs.declared.kind.Kind.{Kind}
use Rattle.nsc_model.specs.declared.kind.Kind.TheVariants as kind
use Rattle.nsc_model.specs.declared.kind.Shape.{Shape}
use Rattle.nsc_model.specs.declared.kind.Shape.TheVariants as shape
use Rattle.nsc_model.specs.declared.answer.Request.{Request}
use Rattle.nsc_model.specs.declared.row.Passwd.{Passwd}
use Rattle.nsc_model.specs.declared.row.Group.{Group}
use Rattle.nsc_model.specs.declared.row.Host.{Host}
use Rattle.nsc_model.specs.declared.row.Service.{Service}
use Rattle.nsc_model.specs.declared.row.Ai.{Ai}
use Rattle.nsc_model.specs.declared.row.Row.{Row}
use Rattle.nsc_model.specs.declared.row.Row.TheVariants as row
use Rattle.nsc_model.specs.declared.row.Reply.{Reply}
use Rattle.nsc_model.specs.declared.row.Reply.TheVariants.{Found, Absent, Disabled}
use Rattle.nsc_model.specs.Kinds.{is_netgroup, kind_numbered}
use Rattle.nsc_model.specs.Hosts.{ipv4, ipv6}
use Rattle.nsc_model.specs.ServiceLines.{exchanged}
use Rattle.nsc_model.specs.Answer.{reply_limit}
use Rattle.nsc_model.specs.Entry.{key_limit}

-- ---- requests

-- the field of four bytes at this place, without a sign and with one
abbrev pub field_in : List ℕ → ℕ → ℕ
field_in bytes at = little_number 4 (drop at bytes)

abbrev pub signed_field_in : List ℕ → ℕ → ℤ
signed_field_in bytes at = twos_complement 4 (field_in bytes at)

-- what the input of a connection asks
pub data Asked : Type 0 where
  Look : (request : Request) → Asked
  Shutdown : Asked
  Stat : Asked
  Invalidate : (name : List ℕ) → Asked
  Descriptor : Asked
  Netgroup : Asked
  Short : (have : ℕ) → Asked
  BadVersion : (version : ℤ) → Asked
  BadType : (type : ℤ) → Asked
  BadLength : (length : ℤ) → Asked

-- a text key ends before its first zero byte
abbrev pub text_key : List ℕ → List ℕ
text_key key = before_first (λ b. b == 0) key

-- the key that is stored: an address as its raw bytes, every other key as a text
abbrev pub stored_key : Kind → List ℕ → List ℕ
stored_key kind.HostAddr key = key
stored_key kind.HostAddr6 key = key
stored_key _ key = text_key key

-- a type up to 21 that is no lookup
abbrev pub asked_otherwise : ℕ → List ℕ → Asked
asked_otherwise type key =
    if type == 8 then Shutdown else (
    if type == 9 then Stat else (
    if type == 10 then Invalidate (text_key key) else Descriptor))

-- a lookup, or a request for a netgroup, which is not looked up yet
abbrev pub asked_look : Option Kind → ℕ → List ℕ → Asked
asked_look (Some k) type key = if is_netgroup k then Netgroup else Look (record { kind = k; key = stored_key k key })
asked_look None type key = asked_otherwise type key

-- the three fields version, type and key length, and then the key; what stands after the key is not looked at.
-- A negative number is one of 2 ^ 31 or more without its sign, and so above every limit.
abbrev pub request_of : List ℕ → Asked
request_of bytes =
    if nat_lt (length bytes) 12 then Short (length bytes) else (
    if field_in bytes 0 == 2 then (
    if nat_lt 21 (field_in bytes 4) then BadType (signed_field_in bytes 4) else (
    if nat_lt key_limit (field_in bytes 8) then BadLength (signed_field_in bytes 8) else (
    if nat_lt (length bytes) (12 + field_in bytes 8) then Short (length bytes) else
    asked_look (kind_numbered (field_in bytes 4)) (field_in bytes 4) (take (field_in bytes 8) (drop 12 bytes)))))
    else BadVersion (signed_field_in bytes 0))

-- ---- replies

-- a field of four bytes; -1 is 2 ^ 32 - 1
abbrev pub field : ℕ → List ℕ
field n = little_bytes 4 n

abbrev pub minus_one : ℕ
minus_one = 4294967295

-- a text ends with a zero byte, which its length counts
abbrev pub text : List ℕ → List ℕ
text bytes = bytes ++ 0 ∷ []

abbrev pub text_len : List ℕ → List ℕ
text_len bytes = field (length bytes + 1)

-- a text that can be sent holds no zero byte
abbrev pub IsText : List ℕ → Type 0
IsText bytes = All (λ b. b ≢ 0) bytes

-- the shape of the replies of a kind
abbrev pub shape_of : Kind → Shape
shape_of kind.PwName = shape.User
shape_of kind.PwUid = shape.User
shape_of kind.GrName = shape.Group
shape_of kind.GrGid = shape.Group
shape_of kind.HostName = shape.Host
shape_of kind.HostName6 = shape.Host
shape_of kind.HostAddr = shape.Host
shape_of kind.HostAddr6 = shape.Host
shape_of kind.Ai = shape.Addresses
shape_of kind.InitGroups = shape.Ids
shape_of kind.ServName = shape.Service
shape_of kind.ServPort = shape.Service
shape_of kind.NetgrEnt = shape.Netgroup
shape_of kind.InNetgr = shape.Member

-- the shape of the reply that has a row
abbrev pub row_shape : Row → Shape
row_shape (row.Passwd p) = shape.User
row_shape (row.Group g) = shape.Group
row_shape (row.Host h) = shape.Host
row_shape (row.Service s) = shape.Service
row_shape (row.Ai a) = shape.Addresses
row_shape (row.Groups ids) = shape.Ids
row_shape (row.Netgroup texts) = shape.Netgroup
row_shape (row.Member has) = shape.Member

-- ---- the bytes of rows

-- version, found, name length, passwd length, uid, gid, gecos length, dir length, shell length, and the five texts
abbrev pub passwd_found : Passwd → List ℕ
passwd_found p =
    field 2 ++ field 1 ++ text_len p.name ++ text_len p.passwd ++ field p.uid ++ field p.gid ++ text_len p.gecos ++ text_len p.dir ++ text_len p.shell
    ++ text p.name ++ text p.passwd ++ text p.gecos ++ text p.dir ++ text p.shell

-- version, found, name length, passwd length, gid, member count, a length for each member, name, passwd and the members
abbrev pub group_found : Group → List ℕ
group_found g =
    field 2 ++ field 1 ++ text_len g.name ++ text_len g.passwd ++ field g.gid ++ field (length g.members) ++ flat_map text_len g.members
    ++ text g.name ++ text g.passwd ++ flat_map text g.members

-- version, found, group count, and each id
abbrev pub ids_found : List ℕ → List ℕ
ids_found ids = field 2 ++ field 1 ++ field (length ids) ++ flat_map field ids

-- version, found, name length, alias count, address type, address length, address count, error; the name, a length for each
-- alias, the address and the aliases. A reply has one address.
abbrev pub host_found : Host → List ℕ
host_found h =
    field 2 ++ field 1 ++ text_len h.name ++ field (length h.aliases) ++ field h.family ++ field (length h.address) ++ field 1 ++ field 0
    ++ text h.name ++ flat_map text_len h.aliases ++ h.address ++ flat_map text h.aliases

-- version, found, address count, address bytes, canonical name length, error; all addresses, a byte for the family of each,
-- and the canonical name
abbrev pub addresses_found : Ai → List ℕ
addresses_found a =
    let addresses = flat_map (λ f. f.address) a.list in
    field 2 ++ field 1 ++ field (length a.list) ++ field (length addresses) ++ text_len a.canon ++ field 0
    ++ addresses ++ map (λ f. f.family) a.list ++ text a.canon

-- version, found, name length, protocol length, alias count and port, whose two bytes are exchanged; the name, the protocol, a
-- length for each alias and the aliases
abbrev pub service_found : Service → List ℕ
service_found s =
    field 2 ++ field 1 ++ text_len s.name ++ text_len s.proto ++ field (length s.aliases) ++ field (exchanged s.port)
    ++ text s.name ++ text s.proto ++ flat_map text_len s.aliases ++ flat_map text s.aliases

-- version, found, triple count, byte length of the texts, and host, user and domain of each triple
abbrev pub netgroup_found : List (List ℕ) → List ℕ
netgroup_found texts = field 2 ++ field 1 ++ field (length texts / 3) ++ field (length (flat_map text texts)) ++ flat_map text texts

-- version, found, and 1 if the netgroup has such a triple, else 0
abbrev pub member_found : Bool → List ℕ
member_found has = field 2 ++ field 1 ++ field (if has then 1 else 0)

-- the bytes of the reply that has a row
abbrev pub row_found : Row → List ℕ
row_found (row.Passwd p) = passwd_found p
row_found (row.Group g) = group_found g
row_found (row.Host h) = host_found h
row_found (row.Service s) = service_found s
row_found (row.Ai a) = addresses_found a
row_found (row.Groups ids) = ids_found ids
row_found (row.Netgroup texts) = netgroup_found texts
row_found (row.Member has) = member_found has

-- the fields of a shape without a row, by their fields found and error: an id, a port, an address type and an address length
-- are -1, a length and a count 0
abbrev pub lacking : Shape → ℕ → ℕ → List ℕ
lacking shape.User found error = field 2 ++ field found ++ field 0 ++ field 0 ++ field minus_one ++ field minus_one ++ field 0 ++ field 0 ++ field 0
lacking shape.Group found error = field 2 ++ field found ++ field 0 ++ field 0 ++ field minus_one ++ field 0
lacking shape.Ids found error = field 2 ++ field found ++ field 0
lacking shape.Host found error = field 2 ++ field found ++ field 0 ++ field 0 ++ field minus_one ++ field minus_one ++ field 0 ++ field error
lacking shape.Addresses found error = field 2 ++ field found ++ field 0 ++ field 0 ++ field 0 ++ field error
lacking shape.Service found error = field 2 ++ field found ++ field 0 ++ field 0 ++ field 0 ++ field minus_one
lacking shape.Netgroup found error = field 2 ++ field found ++ field 0 ++ field 0
lacking shape.Member found error = field 2 ++ field found ++ field 0

-- the bytes of a reply of a kind: where there is no entry, found is 0 and the error 1; where the database is not cached, both are -1
abbrev pub spelled : Kind → Reply → List ℕ
spelled kind (Found row) = row_found row
spelled kind Absent = lacking (shape_of kind) 0 1
spelled kind Disabled = lacking (shape_of kind) minus_one minus_one

-- ---- rows that can be sent

-- the texts can be sent, and the ids are numbers of four bytes
pub record IsUser (p : Passwd) : Type 0 where
  pub name_is : IsText p.name
  pub passwd_is : IsText p.passwd
  pub uid_fits : p.uid < 2 ^ 32
  pub gid_fits : p.gid < 2 ^ 32
  pub gecos_is : IsText p.gecos
  pub dir_is : IsText p.dir
  pub shell_is : IsText p.shell

-- the texts can be sent, and the id is a number of four bytes
pub record IsGroup (g : Group) : Type 0 where
  pub name_is : IsText g.name
  pub passwd_is : IsText g.passwd
  pub gid_fits : g.gid < 2 ^ 32
  pub members_are : All IsText g.members

-- four bytes of IPv4 or sixteen of IPv6, by the family
abbrev pub IsAddress : ℕ → List ℕ → Type 0
IsAddress family address = ((family ≡ ipv4) × (length address ≡ 4)) ⊎ ((family ≡ ipv6) × (length address ≡ 16))

-- the texts can be sent, and the address is of its family
pub record IsHost (h : Host) : Type 0 where
  pub name_is : IsText h.name
  pub aliases_are : All IsText h.aliases
  pub address_is : IsAddress h.family h.address

-- each address is of its family, and the name can be sent
pub record AreAddresses (a : Ai) : Type 0 where
  pub addresses_are : All (λ f. IsAddress f.family f.address) a.list
  pub canon_is : IsText a.canon

-- the texts can be sent, and the port is a number of two bytes
pub record IsService (s : Service) : Type 0 where
  pub name_is : IsText s.name
  pub proto_is : IsText s.proto
  pub aliases_are : All IsText s.aliases
  pub port_fits : s.port < 2 ^ 16

-- whole triples of texts that can be sent: host, user and domain of each
pub record AreTriples (texts : List (List ℕ)) : Type 0 where
  pub whole : length texts % 3 ≡ 0
  pub texts_are : All IsText texts

-- a row can be sent; ids are numbers of four bytes
abbrev pub IsRow : Row → Type 0
IsRow (row.Passwd p) = IsUser p
IsRow (row.Group g) = IsGroup g
IsRow (row.Host h) = IsHost h
IsRow (row.Service s) = IsService s
IsRow (row.Ai a) = AreAddresses a
IsRow (row.Groups ids) = All (λ id. id < 2 ^ 32) ids
IsRow (row.Netgroup texts) = AreTriples texts
IsRow (row.Member has) = Unit {0}

-- a reply is of a kind: a row has the kind's shape, and can be sent
abbrev pub IsReplyOf : Kind → Reply → Type 0
IsReplyOf kind (Found row) = (row_shape row ≡ shape_of kind) × IsRow row
IsReplyOf kind Absent = Unit {0}
IsReplyOf kind Disabled = Unit {0}

-- the bytes spell the reply of the kind; a reply has at most 2 ^ 30 bytes, so that its lengths fit their fields
pub record Spells (kind : Kind) (reply : Reply) (bytes : List ℕ) : Type 0 where
  pub of_kind : IsReplyOf kind reply
  pub spelling : bytes ≡ spelled kind reply
  pub bound : length bytes ≤ reply_limit
