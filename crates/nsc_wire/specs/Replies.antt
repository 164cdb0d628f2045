-- A reply read from left to right, or the first field or text that breaks the layout of its kind. Its place is told by how many
-- bytes are left from there on: none where the bytes end early.
use Rattle.std.specs.Prelude.{◌≡◌, ℕ, zero, suc, ◌+◌, ◌-◌, ◌*◌, Bool, true, false, ◌==◌, nat_lt, if◌then◌else◌, List, [], ◌∷◌, length, take, drop, Result, Ok, Err}
use Rattle.byteorder.specs.Endian.{little_number}
use Rattle.nsc_model.specs.declared.kind.Kind.{Kind}
use Rattle.nsc_model.specs.declared.row.Passwd.{Passwd}
use Rattle.nsc_model.specs.declared.row.Group.{Group}
use Rattle.nsc_model.specs.declared.row.Host.{Host}
use Rattle.nsc_model.specs.declared.row.Service.{Service}
use Rattle.nsc_model.specs.declared.row.Found6.{Found6}
use Rattle.nsc_model.specs.declared.row.Ai.{Ai}
use Rattle.nsc_model.specs.declared.row.Row.{Row}
use Rattle.nsc_model.specs.declared.row.Row.TheVariants as row
use Rattle.nsc_model.specs.declared.row.Reply.{Reply}
use Rattle.nsc_model.specs.declared.row.Reply.TheVariants.{Found, Absent, Disabled}
use Rattle.nsc_model.specs.Answer.{reply_limit}
use Rattle.nsc_model.specs.Hosts.{ipv4, ipv6}
use Rattle.nsc_model.specs.ServiceLines.{exchanged}
use Rattle.nsc_model.specs.declared.kind.Shape.{Shape}
use Rattle.nsc_model.specs.declared.kind.Shape.TheVariants as shape
use Rattle.nsc_model.specs.Wire.{shape_of, minus_one, text_key}
use Rattle.nsc_wire.specs.declared.fault.Broken.{Broken}
use Rattle.nsc_wire.specs.declared.fault.Broken.TheVariants as broken
use Rattle.nsc_wire.specs.declared.fault.ReplyFault.{ReplyFault}
use Rattle.nsc_wire.specs.declared.fault.ReplyFault.TheVariants as fault

infixl 10 ◌>>=◌
abbrev pub ◌>>=◌ : {A B : Type 0} → Result A ℕ → (A → Result B ℕ) → Result B ℕ
(Ok x) >>= f = f x
(Err left) >>= f = Err left

-- ---- fields

-- the next `size` bytes
unfoldable pub piece_at : ℕ → List ℕ → Result (List ℕ × List ℕ) ℕ
piece_at size bytes = if nat_lt (length bytes) size then Err 0 else Ok (take size bytes, drop size bytes)

-- a field of four bytes
unfoldable pub number_at : List ℕ → Result (ℕ × List ℕ) ℕ
number_at bytes = if nat_lt (length bytes) 4 then Err 0 else Ok (little_number 4 bytes, drop 4 bytes)

unfoldable pub numbers_at : ℕ → List ℕ → Result (List ℕ × List ℕ) ℕ
numbers_at zero bytes = Ok ([], bytes)
numbers_at (suc count) bytes = do
  first ← number_at bytes
  others ← numbers_at count first.1
  Ok (first.0 ∷ others.0, others.1)

-- a field that has this value
unfoldable pub fixed_at : ℕ → List ℕ → Result (List ℕ) ℕ
fixed_at value bytes = do
  n ← number_at bytes
  if n.0 == value then Ok n.1 else Err (length bytes)

unfoldable pub all_fixed : List ℕ → List ℕ → Result (List ℕ) ℕ
all_fixed [] bytes = Ok bytes
all_fixed (value ∷ values) bytes = do
  rest ← fixed_at value bytes
  all_fixed values rest

-- ---- texts

-- the length of a text, which counts its zero byte
unfoldable pub size_at : List ℕ → Result (ℕ × List ℕ) ℕ
size_at bytes = do
  n ← number_at bytes
  if n.0 == 0 then Err (length bytes) else Ok n

-- the lengths of texts, and the bytes after them
unfoldable pub sizes_at : ℕ → List ℕ → Result (List ℕ) ℕ
sizes_at zero bytes = Ok bytes
sizes_at (suc count) bytes = do
  first ← size_at bytes
  sizes_at count first.1

-- a text of this length: its only zero byte is its last byte
unfoldable pub text_at : ℕ → List ℕ → Result (List ℕ × List ℕ) ℕ
text_at size bytes = do
  piece ← piece_at size bytes
  if length (text_key piece.0) + 1 == size then Ok (text_key piece.0, piece.1) else Err (length bytes)

-- texts whose lengths are the fields at the front of these
unfoldable pub texts_at : ℕ → List ℕ → List ℕ → Result (List (List ℕ) × List ℕ) ℕ
texts_at zero lengths bytes = Ok ([], bytes)
texts_at (suc count) lengths bytes = do
  size ← number_at lengths
  first ← text_at size.0 bytes
  others ← texts_at count size.1 first.1
  Ok (first.0 ∷ others.0, others.1)

-- a text that ends at its first zero byte; where there is none, the bytes end early
unfoldable pub ended_text_at : List ℕ → Result (List ℕ × List ℕ) ℕ
ended_text_at bytes = if nat_lt (length (text_key bytes)) (length bytes) then Ok (text_key bytes, drop (length (text_key bytes) + 1) bytes) else Err 0

unfoldable pub ended_texts_at : ℕ → List ℕ → Result (List (List ℕ) × List ℕ) ℕ
ended_texts_at zero bytes = Ok ([], bytes)
ended_texts_at (suc count) bytes = do
  first ← ended_text_at bytes
  others ← ended_texts_at count first.1
  Ok (first.0 ∷ others.0, others.1)

-- ---- rows, after the fields version and found

unfoldable pub user_at : List ℕ → Result (Passwd × List ℕ) ℕ
user_at bytes = do
  name ← size_at bytes
  passwd ← size_at name.1
  uid ← number_at passwd.1
  gid ← number_at uid.1
  gecos ← size_at gid.1
  dir ← size_at gecos.1
  shell ← size_at dir.1
  name ← text_at name.0 shell.1
  passwd ← text_at passwd.0 name.1
  gecos ← text_at gecos.0 passwd.1
  dir ← text_at dir.0 gecos.1
  shell ← text_at shell.0 dir.1
  Ok (record { name = name.0; passwd = passwd.0; uid = uid.0; gid = gid.0; gecos = gecos.0; dir = dir.0; shell = shell.0 }, shell.1)

unfoldable pub group_at : List ℕ → Result (Group × List ℕ) ℕ
group_at bytes = do
  name ← size_at bytes
  passwd ← size_at name.1
  gid ← number_at passwd.1
  count ← number_at gid.1
  rest ← sizes_at count.0 count.1
  name ← text_at name.0 rest
  passwd ← text_at passwd.0 name.1
  members ← texts_at count.0 count.1 passwd.1
  Ok (record { name = name.0; passwd = passwd.0; gid = gid.0; members = members.0 }, members.1)

unfoldable pub ids_at : List ℕ → Result (List ℕ × List ℕ) ℕ
ids_at bytes = do
  count ← number_at bytes
  numbers_at count.0 count.1

-- how many bytes an address of this family has; 0 where it is none
abbrev pub address_size : ℕ → ℕ
address_size family = if family == ipv4 then 4 else (if family == ipv6 then 16 else 0)

-- the family of an address
unfoldable pub family_at : List ℕ → Result (ℕ × List ℕ) ℕ
family_at bytes = do
  n ← number_at bytes
  if address_size n.0 == 0 then Err (length bytes) else Ok n

-- the length is that of the family; there is one address, and no error
unfoldable pub host_at : List ℕ → Result (Host × List ℕ) ℕ
host_at bytes = do
  name ← size_at bytes
  count ← number_at name.1
  family ← family_at count.1
  rest ← all_fixed (address_size family.0 ∷ 1 ∷ 0 ∷ []) family.1
  name ← text_at name.0 rest
  rest ← sizes_at count.0 name.1
  address ← piece_at (address_size family.0) rest
  aliases ← texts_at count.0 name.1 address.1
  Ok (record { name = name.0; aliases = aliases.0; family = family.0; address = address.0 }, aliases.1)

-- an address at the front of the first bytes, whose family is the first of the second bytes
unfoldable pub found_at : List ℕ → List ℕ → Result (Found6 × List ℕ × List ℕ) ℕ
found_at addresses [] = Err 0
found_at addresses (family ∷ rest) =
    if address_size family == 0 then Err (suc (length rest)) else (
    if nat_lt (length addresses) (address_size family) then Err (suc (length rest)) else
    Ok (record { family = family; address = take (address_size family) addresses }, drop (address_size family) addresses, rest))

unfoldable pub founds_at : ℕ → List ℕ → List ℕ → Result (List Found6 × List ℕ × List ℕ) ℕ
founds_at zero addresses families = Ok ([], addresses, families)
founds_at (suc count) addresses families = do
  first ← found_at addresses families
  others ← founds_at count first.1 first.2
  Ok (first.0 ∷ others.0, others.1, others.2)

-- the families agree with the addresses, one after the other; where addresses are left over, their length is at fault
unfoldable pub addresses_at : List ℕ → Result (Ai × List ℕ) ℕ
addresses_at bytes = do
  count ← number_at bytes
  size ← number_at count.1
  canon ← size_at size.1
  rest ← fixed_at 0 canon.1
  addresses ← piece_at size.0 rest
  list ← founds_at count.0 addresses.0 addresses.1
  if length list.1 == 0 then (text_at canon.0 list.2 >>= λ canon. Ok (record { list = list.0; canon = canon.0 }, canon.1)) else Err (length count.1)

-- a port of two bytes
unfoldable pub port_at : List ℕ → Result (ℕ × List ℕ) ℕ
port_at bytes = do
  n ← number_at bytes
  if nat_lt n.0 65536 then Ok (exchanged n.0, n.1) else Err (length bytes)

unfoldable pub service_at : List ℕ → Result (Service × List ℕ) ℕ
service_at bytes = do
  name ← size_at bytes
  proto ← size_at name.1
  count ← number_at proto.1
  port ← port_at count.1
  name ← text_at name.0 port.1
  proto ← text_at proto.0 name.1
  rest ← sizes_at count.0 proto.1
  aliases ← texts_at count.0 proto.1 rest
  Ok (record { name = name.0; proto = proto.0; aliases = aliases.0; port = port.0 }, aliases.1)

-- three texts for each triple; if the texts take more or fewer bytes than announced, the byte length is at fault
unfoldable pub netgroup_at : List ℕ → Result (List (List ℕ) × List ℕ) ℕ
netgroup_at bytes = do
  count ← number_at bytes
  size ← number_at count.1
  texts ← ended_texts_at (3 * count.0) size.1
  if length texts.1 + size.0 == length size.1 then Ok texts else Err (length count.1)

-- 1 or 0
unfoldable pub member_at : List ℕ → Result (Bool × List ℕ) ℕ
member_at bytes = do
  n ← number_at bytes
  if n.0 == 1 then Ok (true, n.1) else (if n.0 == 0 then Ok (false, n.1) else Err (length bytes))

-- what is found, made from what is read
abbrev pub found_by : {A : Type 0} → (A → Row) → Result (A × List ℕ) ℕ → Result (Row × List ℕ) ℕ
found_by make read = read >>= λ x. Ok (make x.0, x.1)

unfoldable pub row_at : Shape → List ℕ → Result (Row × List ℕ) ℕ
row_at shape.User bytes = found_by row.Passwd (user_at bytes)
row_at shape.Group bytes = found_by row.Group (group_at bytes)
row_at shape.Ids bytes = found_by row.Groups (ids_at bytes)
row_at shape.Host bytes = found_by row.Host (host_at bytes)
row_at shape.Addresses bytes = found_by row.Ai (addresses_at bytes)
row_at shape.Service bytes = found_by row.Service (service_at bytes)
row_at shape.Netgroup bytes = found_by row.Netgroup (netgroup_at bytes)
row_at shape.Member bytes = found_by row.Member (member_at bytes)

-- ---- replies

-- the fields of a reply without a row, after version and found
abbrev pub lacking_fields : Shape → ℕ → List ℕ
lacking_fields shape.User error = 0 ∷ 0 ∷ minus_one ∷ minus_one ∷ 0 ∷ 0 ∷ 0 ∷ []
lacking_fields shape.Group error = 0 ∷ 0 ∷ minus_one ∷ 0 ∷ []
lacking_fields shape.Ids error = 0 ∷ []
lacking_fields shape.Host error = 0 ∷ 0 ∷ minus_one ∷ minus_one ∷ 0 ∷ error ∷ []
lacking_fields shape.Addresses error = 0 ∷ 0 ∷ 0 ∷ error ∷ []
lacking_fields shape.Service error = 0 ∷ 0 ∷ 0 ∷ minus_one ∷ []
lacking_fields shape.Netgroup error = 0 ∷ 0 ∷ []
lacking_fields shape.Member error = 0 ∷ []

-- what stands after the field version
unfoldable pub said_at : Shape → List ℕ → Result (Reply × List ℕ) ℕ
said_at shape bytes = do
  found ← number_at bytes
  if found.0 == 1 then (row_at shape found.1 >>= λ row. Ok (Found row.0, row.1)) else (
      if found.0 == 0 then (all_fixed (lacking_fields shape 1) found.1 >>= λ rest. Ok (Absent, rest)) else (
      if found.0 == minus_one then (all_fixed (lacking_fields shape minus_one) found.1 >>= λ rest. Ok (Disabled, rest)) else Err (length bytes)))

unfoldable pub reply_at : Kind → List ℕ → Result (Reply × List ℕ) ℕ
reply_at kind bytes = do
  found ← fixed_at 2 bytes
  said_at (shape_of kind) found

-- no byte is left
unfoldable pub ended : List ℕ → Result (List ℕ) ℕ
ended rest = if length rest == 0 then Ok rest else Err (length rest)

-- all of the bytes: those after a reply are surplus, and so are those above the limit of a reply
unfoldable pub whole_reply : Kind → List ℕ → Result Reply ℕ
whole_reply kind bytes = do
  said ← reply_at kind bytes
  rest ← ended said.1
  if nat_lt reply_limit (length bytes) then Err (length bytes - reply_limit) else Ok said.0

-- ---- what a reader returned

-- what was read, seen by view, is what reading gives, unless memory was short
abbrev pub Breaks : {Y : Type 0} → Broken → Result Y ℕ → Type 0
Breaks broken.NoMemory read = Unit {0}
Breaks (broken.Left left) read = read ≡ Err left

abbrev pub Gives : {X Y : Type 0} → (X → Y) → Result X Broken → Result Y ℕ → Type 0
Gives view (Ok x) read = read ≡ Ok (view x)
Gives view (Err e) read = Breaks e read

-- a fault is told by its place, from the front of the bytes
abbrev pub placed : {A : Type 0} → ℕ → Result A ℕ → Result A ℕ
placed size (Ok x) = Ok x
placed size (Err left) = Err (size - left)

-- the reply that these bytes spell, or the place of their first fault
abbrev pub decoded : Kind → List ℕ → Result Reply ℕ
decoded kind bytes = placed (length bytes) (whole_reply kind bytes)

-- a decoder answered this, unless memory was short
abbrev pub Answers : Result Reply ReplyFault → Result Reply ℕ → Type 0
Answers (Ok reply) read = read ≡ Ok reply
Answers (Err fault.NoMemory) read = Unit {0}
Answers (Err (fault.BadReply at)) read = read ≡ Err at
