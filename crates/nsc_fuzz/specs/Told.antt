-- What readers say, as bytes: numbers of eight bytes with the lowest first, and texts behind their lengths.
use Rattle.std.specs.Prelude.{◌≡◌, ◌⊎◌, ℕ, ◌==◌, Bool, if◌then◌else◌, List, ◌++◌, length, take, drop, flat_map, Option, Some, None, Result, Ok, Err}
use Rattle.std.specs.Int.{w32, cast_unsigned}
use Rattle.nsc_model.specs.declared.row.Passwd.{Passwd}
use Rattle.nsc_model.specs.declared.row.Group.{Group}
use Rattle.nsc_model.specs.declared.row.Host.{Host}
use Rattle.nsc_model.specs.declared.row.Service.{Service}
use Rattle.nsc_model.specs.declared.row.Found6.{Found6}
use Rattle.nsc_model.specs.declared.row.Ai.{Ai}
use Rattle.nsc_model.specs.declared.row.Row.{Row}
use Rattle.nsc_model.specs.declared.row.Row.TheVariants as row
use Rattle.nsc_model.specs.declared.row.Reply.{Reply}
use Rattle.nsc_model.specs.declared.row.Reply.TheVariants as reply
use Rattle.nsc_model.specs.declared.conf.Conf.{Conf}
use Rattle.nsc_model.specs.declared.conf.DbConf.{DbConf}
use Rattle.nsc_model.specs.declared.exit.ConfFault.{ConfFault}
use Rattle.nsc_model.specs.declared.exit.ConfFault.TheVariants as fault
use Rattle.nsc_model.specs.declared.switch.DbName.{DbName}
use Rattle.nsc_model.specs.declared.switch.DbName.TheVariants as list
use Rattle.nsc_model.specs.declared.switch.SwitchService.{SwitchService}
use Rattle.nsc_model.specs.declared.switch.SwitchService.TheVariants as service
use Rattle.nsc_model.specs.declared.switch.SwitchAction.{SwitchAction}
use Rattle.nsc_model.specs.declared.switch.SwitchAction.TheVariants as action
use Rattle.nsc_model.specs.declared.switch.SwitchStep.{SwitchStep}
use Rattle.nsc_model.specs.Image.{Saved, mark_of, wide_field}
use Rattle.nsc_model.specs.Kinds.{type_number}
use Rattle.nsc_model.specs.Wire.{Asked, Look, Shutdown, Stat, Invalidate, Descriptor, Netgroup, Short, BadVersion, BadType, BadLength}
use Rattle.nsc_image.specs.declared.fault.ImageFault.{ImageFault}
use Rattle.nsc_image.specs.declared.fault.ImageFault.TheVariants as image

-- ---- parts

unfoldable pub number_told : ℕ → List ℕ
number_told n = wide_field n

unfoldable pub flag_told : Bool → List ℕ
flag_told b = number_told (mark_of b)

unfoldable pub text_told : List ℕ → List ℕ
text_told bytes = number_told (length bytes) ++ bytes

abbrev pub texts_told : List (List ℕ) → List ℕ
texts_told texts = number_told (length texts) ++ flat_map text_told texts

abbrev pub numbers_told : List ℕ → List ℕ
numbers_told numbers = number_told (length numbers) ++ flat_map number_told numbers

-- 0 where there is none, else 1 and what there is
abbrev pub option_told : {A : Type 0} → (A → List ℕ) → Option A → List ℕ
option_told told None = number_told 0
option_told told (Some x) = number_told 1 ++ told x

-- nothing is told, and the room is as it was
abbrev pub IsNotTold : List ℕ → List ℕ → ℕ → Type 0
IsNotTold before after size = (size ≡ 0) × (after ≡ before)

-- what is told stands at the front of a room, whose rest is as it was, and this is its size; or nothing is told, where memory was
-- short or the room was too small
abbrev pub IsTold : List ℕ → List ℕ → List ℕ → ℕ → Type 0
IsTold told before after size = IsNotTold before after size ⊎ ((size ≡ length told) × (take size after ≡ told) × (drop size after ≡ drop size before))

-- ---- rows

abbrev pub user_told : Passwd → List ℕ
user_told p =
    text_told p.name ++ text_told p.passwd ++ number_told p.uid ++ number_told p.gid ++ text_told p.gecos ++ text_told p.dir ++ text_told p.shell

abbrev pub group_told : Group → List ℕ
group_told g = text_told g.name ++ text_told g.passwd ++ number_told g.gid ++ texts_told g.members

abbrev pub host_told : Host → List ℕ
host_told h = text_told h.name ++ texts_told h.aliases ++ number_told h.family ++ text_told h.address

abbrev pub service_told : Service → List ℕ
service_told s = text_told s.name ++ text_told s.proto ++ texts_told s.aliases ++ number_told s.port

unfoldable pub address_told : Found6 → List ℕ
address_told f = number_told f.family ++ text_told f.address

abbrev pub addresses_told : Ai → List ℕ
addresses_told a = number_told (length a.list) ++ flat_map address_told a.list ++ text_told a.canon

abbrev pub row_told : Row → List ℕ
row_told (row.Passwd p) = user_told p
row_told (row.Group g) = group_told g
row_told (row.Host h) = host_told h
row_told (row.Service s) = service_told s
row_told (row.Ai a) = addresses_told a
row_told (row.Groups ids) = numbers_told ids
row_told (row.Netgroup texts) = texts_told texts
row_told (row.Member has) = flag_told has

-- ---- requests and replies

abbrev pub request_told : Asked → List ℕ
request_told (Look request) = number_told 0 ++ number_told (type_number request.kind) ++ text_told request.key
request_told Descriptor = number_told 1
request_told Netgroup = number_told 2
request_told Shutdown = number_told 3
request_told Stat = number_told 4
request_told (Invalidate name) = number_told 5 ++ text_told name
request_told (Short have) = number_told 6 ++ number_told have
request_told (BadVersion version) = number_told 7 ++ number_told (cast_unsigned w32 version)
request_told (BadType type) = number_told 8 ++ number_told (cast_unsigned w32 type)
request_told (BadLength length) = number_told 9 ++ number_told (cast_unsigned w32 length)

-- the reply, or the place of the first fault
abbrev pub reply_told : Result Reply ℕ → List ℕ
reply_told (Ok (reply.Found row)) = number_told 0 ++ row_told row
reply_told (Ok reply.Absent) = number_told 1
reply_told (Ok reply.Disabled) = number_told 2
reply_told (Err at) = number_told 3 ++ number_told at

-- ---- configurations

unfoldable pub settings_told : DbConf → List ℕ
settings_told s =
    flag_told s.enabled ++ number_told s.positive ++ number_told s.negative ++ number_told s.size ++ flag_told s.check_files
    ++ flag_told s.persistent ++ flag_told s.shared ++ number_told s.max_size ++ flag_told s.propagate

abbrev pub conf_told : Result Conf ConfFault → List ℕ
conf_told (Ok c) =
    number_told 0 ++ settings_told c.passwd ++ settings_told c.group ++ settings_told c.hosts ++ settings_told c.services
    ++ option_told number_told c.reloads ++ number_told c.threads
conf_told (Err (fault.BadLine line)) = number_told 1 ++ number_told line
conf_told (Err (fault.BadValue line)) = number_told 2 ++ number_told line
conf_told (Err (fault.UnknownAttribute line)) = number_told 3 ++ number_told line

-- the list of a number
abbrev pub list_numbered : ℕ → Option DbName
list_numbered n =
    if n == 0 then Some list.Passwd else (
    if n == 1 then Some list.Group else (
    if n == 2 then Some list.Hosts else (
    if n == 3 then Some list.Services else (
    if n == 4 then Some list.PasswdCompat else (
    if n == 5 then Some list.GroupCompat else None)))))

abbrev pub service_kind_told : SwitchService → List ℕ
service_kind_told service.Files = number_told 0
service_kind_told service.Compat = number_told 1
service_kind_told service.Extrausers = number_told 2
service_kind_told service.Other = number_told 3

abbrev pub action_told : SwitchAction → List ℕ
action_told action.Return = number_told 0
action_told action.Continue = number_told 1
action_told action.Merge = number_told 2

unfoldable pub step_told : SwitchStep → List ℕ
step_told s = service_kind_told s.service ++ action_told s.success ++ action_told s.notfound ++ action_told s.unavail ++ action_told s.tryagain

abbrev pub steps_told : List SwitchStep → List ℕ
steps_told steps = number_told (length steps) ++ flat_map step_told steps

-- ---- images

-- 1 and an entry
unfoldable pub saved_told : Saved → List ℕ
saved_told s =
    number_told 1 ++ number_told s.number ++ number_told (type_number s.request.kind) ++ text_told s.request.key ++ text_told s.answer.bytes
    ++ flag_told s.answer.not_found ++ number_told s.reloads ++ number_told s.timeout

-- the entries, and 0 behind them; or the check that failed
abbrev pub image_told : Result (List Saved) ImageFault → List ℕ
image_told (Ok entries) = number_told 0 ++ flat_map saved_told entries ++ number_told 0
image_told (Err image.NotImage) = number_told 1
image_told (Err (image.ImageVersion version)) = number_told 2 ++ number_told version
image_told (Err (image.Digest kept found)) = number_told 3 ++ text_told kept ++ text_told found
image_told (Err (image.Layout at)) = number_told 4 ++ number_told at
