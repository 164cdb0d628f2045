-- What a reading of a request says of the bytes that were read.
use Rattle.std.specs.Prelude.{◌≡◌, ℕ, ◌+◌, ◌<◌, ◌≤◌, List, ◌++◌, length}
use Rattle.nsc_base.specs.declared.span.Span.{Span}
use Rattle.nsc_base.specs.Text.{part}
use Rattle.nsc_model.specs.Wire.{Asked, Look, Shutdown, Stat, Invalidate, Descriptor, Netgroup, Short, BadVersion, BadType, BadLength, request_of}
use Rattle.nsc_model.specs.Entry.{key_limit}
use Rattle.nsc_wire.specs.declared.request.Wire.{Wire}
use Rattle.nsc_wire.specs.declared.request.Wire.TheVariants as wire

-- what is asked, with each key as the bytes that its span holds
abbrev pub asked_by : List ℕ → Wire → Asked
asked_by bytes (wire.Request kind key) = Look (record { kind = kind; key = part bytes key })
asked_by bytes wire.Descriptor = Descriptor
asked_by bytes wire.Netgroup = Netgroup
asked_by bytes wire.Shutdown = Shutdown
asked_by bytes wire.Stat = Stat
asked_by bytes (wire.Invalidate key) = Invalidate (part bytes key)
asked_by bytes (wire.Short have) = Short have
asked_by bytes (wire.BadVersion version) = BadVersion version
asked_by bytes (wire.BadType type) = BadType type
asked_by bytes (wire.BadLength length) = BadLength length

-- a key begins after the three fields of a request, and ends within the bytes
pub record IsKeyIn (bytes : List ℕ) (key : Span) : Type 0 where
  pub begins : key.from ≡ 12
  pub ordered : 12 ≤ key.to
  pub ends : key.to ≤ length bytes

-- a key that is read is one
abbrev pub KeyIsIn : List ℕ → Wire → Type 0
KeyIsIn bytes (wire.Request kind key) = IsKeyIn bytes key
KeyIsIn bytes wire.Descriptor = Unit {0}
KeyIsIn bytes wire.Netgroup = Unit {0}
KeyIsIn bytes wire.Shutdown = Unit {0}
KeyIsIn bytes wire.Stat = Unit {0}
KeyIsIn bytes (wire.Invalidate key) = IsKeyIn bytes key
KeyIsIn bytes (wire.Short have) = Unit {0}
KeyIsIn bytes (wire.BadVersion version) = Unit {0}
KeyIsIn bytes (wire.BadType type) = Unit {0}
KeyIsIn bytes (wire.BadLength length) = Unit {0}

-- the key of a lookup is no longer than a key may be
abbrev pub KeyFits : List ℕ → Wire → Type 0
KeyFits bytes (wire.Request kind key) = length (part bytes key) ≤ key_limit
KeyFits bytes wire.Descriptor = Unit {0}
KeyFits bytes wire.Netgroup = Unit {0}
KeyFits bytes wire.Shutdown = Unit {0}
KeyFits bytes wire.Stat = Unit {0}
KeyFits bytes (wire.Invalidate key) = length (part bytes key) ≤ key_limit
KeyFits bytes (wire.Short have) = Unit {0}
KeyFits bytes (wire.BadVersion version) = Unit {0}
KeyFits bytes (wire.BadType type) = Unit {0}
KeyFits bytes (wire.BadLength length) = Unit {0}

-- the head of a request, or a front of it, wants `size` bytes of a key
pub record Wants (fields : List ℕ) (size : ℕ) : Type 0 where
  pub limit : size ≤ key_limit
  pub whole : 0 < size → length fields ≡ 12
  pub short : (more : List ℕ) → length more < size → request_of (fields ++ more) ≡ Short (length fields + length more)
  pub enough : (more : List ℕ) (have : ℕ) → length more ≡ size → request_of (fields ++ more) ≡ Short have → length fields < 12
