-- The gate: connections on which each line asks for one entry, and is answered by one line.
use Rattle.std.specs.Prelude.{◌≡◌, ◌⊎◌, ℕ, Bool, true, false, not, ◌==◌, ◌&&◌, nat_lt, is_some, if◌then◌else◌, List, [], ◌∷◌, ◌++◌, length, codes, decimal, Option, Some, None}
use Rattle.std.specs.List.{after_first, before_first, join_with_byte, list_any}
use Rattle.nsc_base.specs.Addresses.{v4_of, v4_text, v6_of, v6_text}
use Rattle.nsc_base.specs.Decimal.{decimal_of}
use Rattle.nsc_base.specs.Text.{is_filled, is_white}
use Rattle.nsc_model.specs.declared.answer.Request.{Request}
use Rattle.nsc_model.specs.declared.kind.Db.{Db}
use Rattle.nsc_model.specs.declared.kind.Db.TheVariants as db
use Rattle.nsc_model.specs.declared.kind.Kind.{Kind}
use Rattle.nsc_model.specs.declared.kind.Kind.TheVariants as kind
use Rattle.nsc_model.specs.declared.row.Passwd.{Passwd}
use Rattle.nsc_model.specs.declared.row.Group.{Group}
use Rattle.nsc_model.specs.declared.row.Host.{Host}
use Rattle.nsc_model.specs.declared.row.Service.{Service}
use Rattle.nsc_model.specs.declared.row.Row.{Row}
use Rattle.nsc_model.specs.declared.row.Row.TheVariants as row
use Rattle.nsc_model.specs.declared.row.Reply.{Reply}
use Rattle.nsc_model.specs.declared.row.Reply.TheVariants.{Found, Absent, Disabled}
use Rattle.nsc_model.specs.Entry.{key_limit}
use Rattle.nsc_model.specs.Hosts.{ipv4}
use Rattle.nsc_model.specs.Kinds.{db_named}
use Rattle.nsc_model.specs.ServiceLines.{exchanged, port_of, service_key}
use Rattle.nsc_client.specs.declared.line.LineAsks.{LineAsks}
use Rattle.nsc_client.specs.declared.line.LineAsks.TheVariants.{Bad, One, HostNamed}

-- ---- what a line asks

-- a request whose key is too long is not asked
abbrev pub one : Kind → List ℕ → LineAsks
one kind key = if nat_lt key_limit (length key) then Bad else One (record { kind = kind; key = key })

-- by id where the key is a number below 2 ^ 32 in decimal, else by name
abbrev pub by_id_or_name : Kind → Kind → List ℕ → LineAsks
by_id_or_name by_id by_name key = one (if is_some (decimal_of key) then by_id else by_name) key

-- by address where the key is one, whose bytes are asked for, else by name
abbrev pub by_address_or_name : Option (List ℕ) → Option (List ℕ) → List ℕ → LineAsks
by_address_or_name (Some address) v6 key = one kind.HostAddr address
by_address_or_name None (Some address) key = one kind.HostAddr6 address
by_address_or_name None None key = HostNamed key

-- by port where one stands before the last slash of the key, which is asked for as it is sent: in decimal, once its two bytes are
-- exchanged; else by name
abbrev pub by_port_or_name : Option ℕ → List ℕ → List ℕ → LineAsks
by_port_or_name (Some port) proto key = one kind.ServPort (decimal (exchanged port) ++ 47 ∷ proto)
by_port_or_name None proto key = one kind.ServName key

-- what a key asks of a database
abbrev pub asking_in : Option Db → List ℕ → LineAsks
asking_in None key = Bad
asking_in (Some db.Passwd) key = by_id_or_name kind.PwUid kind.PwName key
asking_in (Some db.Group) key = by_id_or_name kind.GrGid kind.GrName key
asking_in (Some db.Hosts) key = by_address_or_name (v4_of key) (v6_of key) key
asking_in (Some db.Services) key = by_port_or_name (port_of (service_key key).asked) (service_key key).proto key

-- a text contains this byte, and the first such byte cuts the text: `front` is before it, and `rest` after it
abbrev pub IsCutAt : ℕ → List ℕ → List ℕ → List ℕ → Type 0
IsCutAt byte text front rest =
    (list_any (λ b. b == byte) text ≡ true) × (front ≡ before_first (λ b. b == byte) text) × (rest ≡ after_first (λ b. b == byte) text)

abbrev pub is_blank : ℕ → Bool
is_blank b = b == 32

-- a key is not empty, has no white space, and is not too long
abbrev pub is_key : List ℕ → Bool
is_key key = is_filled key && not (list_any is_white key) && not (nat_lt key_limit (length key))

-- the name of a database, one blank and a key
abbrev pub asking_of : List ℕ → LineAsks
asking_of line =
    if list_any is_blank line && is_key (after_first is_blank line) then asking_in (db_named (before_first is_blank line)) (after_first is_blank line) else Bad

-- ---- what was asked for it

-- a request, and what it was answered
pub record Told : Type 0 where
  pub request : Request
  pub reply : Reply

abbrev pub told : Kind → List ℕ → Reply → Told
told kind key reply = record { request = record { kind = kind; key = key }; reply = reply }

-- a reply has an entry
abbrev pub has_entry : Reply → Bool
has_entry (Found row) = true
has_entry Absent = false
has_entry Disabled = false

-- the requests that were asked, in their order: none, or one; or a host by name, and once more where the first reply has none
abbrev pub AreAsked : LineAsks → List Told → Type 0
AreAsked Bad asked = asked ≡ []
AreAsked (One request) asked = (reply : Reply) × (asked ≡ record { request = request; reply = reply } ∷ [])
AreAsked (HostNamed name) asked =
    ((reply : Reply) × (has_entry reply ≡ true) × (asked ≡ told kind.HostName name reply ∷ []))
    ⊎ ((first : Reply) × (second : Reply) × (has_entry first ≡ false) × (asked ≡ told kind.HostName name first ∷ told kind.HostName6 name second ∷ []))

-- ---- what answers it

-- name:passwd:uid:gid:gecos:dir:shell
abbrev pub user_text : Passwd → List ℕ
user_text p = join_with_byte 58 (p.name ∷ p.passwd ∷ decimal p.uid ∷ decimal p.gid ∷ p.gecos ∷ p.dir ∷ p.shell ∷ [])

-- name:passwd:gid:member,member
abbrev pub group_text : Group → List ℕ
group_text g = join_with_byte 58 (g.name ∷ g.passwd ∷ decimal g.gid ∷ join_with_byte 44 g.members ∷ [])

-- an address as it is printed, by its family
abbrev pub address_text : ℕ → List ℕ → List ℕ
address_text family address = if family == ipv4 then v4_text address else v6_text address

-- address name alias alias
abbrev pub host_text : Host → List ℕ
host_text h = join_with_byte 32 (address_text h.family h.address ∷ h.name ∷ h.aliases)

-- name port/proto alias alias
abbrev pub service_text : Service → List ℕ
service_text s = join_with_byte 32 (s.name ∷ (decimal s.port ++ 47 ∷ s.proto) ∷ s.aliases)

-- no line asks for the addresses of a host, for the groups of a user, or for a netgroup
abbrev pub row_text : Row → List ℕ
row_text (row.Passwd p) = user_text p
row_text (row.Group g) = group_text g
row_text (row.Host h) = host_text h
row_text (row.Service s) = service_text s
row_text (row.Ai a) = []
row_text (row.Groups ids) = []
row_text (row.Netgroup texts) = []
row_text (row.Member has) = []

abbrev pub reply_text : Reply → List ℕ
reply_text (Found row) = row_text row
reply_text Absent = codes "not found"
reply_text Disabled = codes "not found"

-- the last reply is the answer; where nothing was asked, the line is bad
abbrev pub answer_text : List Told → List ℕ
answer_text [] = codes "bad line"
answer_text (last ∷ []) = reply_text last.reply
answer_text (first ∷ next ∷ others) = answer_text (next ∷ others)

-- the line that answers a line, by what was asked for it
pub record GateText (line : List ℕ) (asked : List Told) (text : List ℕ) : Type 0 where
  pub are_asked : AreAsked (asking_of line) asked
  pub text_is : text ≡ answer_text asked ++ 10 ∷ []
