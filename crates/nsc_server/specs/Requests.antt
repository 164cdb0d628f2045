-- Requests: how far a connection is read, and which requests are refused on a socket of a role.
use Rattle.std.specs.Prelude.{◌≡◌, ℕ, ◌<◌, ◌≤◌, if◌then◌else◌, List, ◌++◌, length, take, Option, Some, None}
use Rattle.nsc_outside.specs.Stream.{Moves, IsDrained}
use Rattle.nsc_model.specs.Wire.{Asked, Look, Shutdown, Stat, Invalidate, Descriptor, Netgroup, Short, BadVersion, BadType, BadLength, request_of}
use Rattle.nsc_model.specs.Kinds.{database_of}
use Rattle.nsc_sockets.specs.declared.role.Role.{Role}
use Rattle.nsc_sockets.specs.declared.role.Role.TheVariants as role
use Rattle.nsc_server.specs.declared.served.Closing.{Closing}
use Rattle.nsc_server.specs.declared.served.Closing.TheVariants as closing
use Rattle.nsc_server.specs.declared.scope.Scopes.{Scopes}
use Rattle.nsc_server.specs.Scopes.{is_left, scope_in}

-- a socket on which requests come
abbrev pub TakesRequests : Role → Type 0
TakesRequests role.Plain = Unit {0}
TakesRequests role.Admin = Unit {0}
TakesRequests role.Gate = ⊥

-- why a request that controls the daemon is refused: it may be asked on the admin socket alone
abbrev pub denial_on : Role → Option Closing
denial_on role.Plain = Some closing.RoleDenied
denial_on role.Admin = None
denial_on role.Gate = Some closing.RoleDenied

-- why what was asked on a socket of this role is refused, or left to who asks
abbrev pub closing_of : Scopes → Role → Asked → Option Closing
closing_of scopes on (Look request) = if is_left (scope_in scopes (database_of request.kind)) request.kind then Some closing.Left else None
closing_of scopes on Shutdown = denial_on on
closing_of scopes on Stat = denial_on on
closing_of scopes on (Invalidate name) = denial_on on
closing_of scopes on Descriptor = Some closing.Descriptor
closing_of scopes on Netgroup = Some closing.Netgroup
closing_of scopes on (Short have) = None
closing_of scopes on (BadVersion version) = Some (closing.BadVersion version)
closing_of scopes on (BadType type) = Some (closing.BadType type)
closing_of scopes on (BadLength size) = Some (closing.BadLength size)

-- no byte was read that was not needed: at each one before the last the request was not whole, and not refused
abbrev pub IsNeeded : List ℕ → Type 0
IsNeeded front = (n : ℕ) → n < length front → request_of (take n front) ≡ Short n

-- a source gave bytes that are not a whole request, and not refused
abbrev pub GetsShort : Option (List ℕ) → Option (List ℕ) → Type 0
GetsShort before after = (front : List ℕ) × Moves before after front × IsNeeded front × (request_of front ≡ Short (length front))

-- where a request is not whole, nothing is left of the input
abbrev pub IsDrainedIfShort : Option (List ℕ) → Asked → Type 0
IsDrainedIfShort left (Short have) = IsDrained left
IsDrainedIfShort left _ = Unit {0}

-- a source gave `size` more bytes, or fewer if it ended
pub record GetsMore (before after : Option (List ℕ)) (old new : List ℕ) (size : ℕ) : Type 0 where
  pub more : List ℕ
  pub moved : Moves before after more
  pub joined : new ≡ old ++ more
  pub limit : length more ≤ size
  pub drained : length more < size → IsDrained after
