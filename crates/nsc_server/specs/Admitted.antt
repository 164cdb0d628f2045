-- Requests that are admitted on a socket, and those that are not.
use Rattle.std.specs.Prelude.{◌≡◌, ℕ, List, Some, None}
use Rattle.nsc_wire.specs.Request.{asked_by}
use Rattle.nsc_wire.specs.declared.request.Wire.{Wire}
use Rattle.nsc_wire.specs.declared.request.Wire.TheVariants as wire
use Rattle.nsc_sockets.specs.declared.role.Role.{Role}
use Rattle.nsc_server.specs.declared.admitted.Admitted.{Admitted}
use Rattle.nsc_server.specs.declared.admitted.Admitted.TheVariants as admitted
use Rattle.nsc_server.specs.declared.served.Served.{Served}
use Rattle.nsc_server.specs.declared.served.Served.TheVariants as served
use Rattle.nsc_server.specs.declared.scope.Scopes.{Scopes}
use Rattle.nsc_server.specs.Requests.{closing_of}

-- what was read
abbrev pub wire_of : Admitted → Wire
wire_of (admitted.Look kind key) = wire.Request kind key
wire_of (admitted.Invalidate key) = wire.Invalidate key
wire_of admitted.Stat = wire.Stat
wire_of admitted.ShutDown = wire.Shutdown

-- what was read is admitted
pub record IsAdmitted (scopes : Scopes) (on : Role) (read : Wire) (it : Admitted) : Type 0 where
  pub same : wire_of it ≡ read
  pub open_to : (bytes : List ℕ) → closing_of scopes on (asked_by bytes read) ≡ None

-- what was read is refused, or was not whole
abbrev pub IsNotAdmitted : Scopes → Role → Wire → Served → Type 0
IsNotAdmitted scopes on read (served.Closed why) = (bytes : List ℕ) → closing_of scopes on (asked_by bytes read) ≡ Some why
IsNotAdmitted scopes on read (served.Ended have) = read ≡ wire.Short have
IsNotAdmitted scopes on read _ = ⊥
