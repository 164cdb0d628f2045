-- Requests that control a daemon.
use Rattle.std.specs.Prelude.{ℕ, List, [], ◌++◌, length}
use Rattle.nsc_model.specs.Kinds.{name_of}
use Rattle.nsc_model.specs.Wire.{field, text}
use Rattle.nsc_control.specs.declared.ask.AdminAsk.{AdminAsk}
use Rattle.nsc_control.specs.declared.ask.AdminAsk.TheVariants as ask

-- the type of the request
abbrev pub type_of : AdminAsk → ℕ
type_of ask.Shutdown = 8
type_of ask.Stat = 9
type_of (ask.Invalidate which) = 10

-- its key: the name of the database and a zero byte, or nothing
abbrev pub key_of : AdminAsk → List ℕ
key_of ask.Shutdown = []
key_of ask.Stat = []
key_of (ask.Invalidate which) = text (name_of which)

-- its version, its type, the length of its key, and the key
abbrev pub request_for : AdminAsk → List ℕ
request_for asked = field 2 ++ field (type_of asked) ++ field (length (key_of asked)) ++ key_of asked
