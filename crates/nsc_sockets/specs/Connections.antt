-- What a listener gives.
use Rattle.std.specs.Prelude.{◌≡◌, ℕ, List, ◌∷◌, Option, Some, None}
use Rattle.nsc_sockets.specs.declared.role.Role.{Role}
use Rattle.nsc_sockets.specs.declared.listener.Accepted.{Accepted}
use Rattle.nsc_sockets.specs.declared.listener.Accepted.TheVariants as accepted

-- A connection that a listener gave: its role, and all that its peer sends.
pub record Connection : Type 0 where
  pub role : Role
  pub bytes : List ℕ

-- A socket at which a listener takes connections: their role, and its path.
pub record Socket : Type 0 where
  pub role : Role
  pub path : List ℕ

-- one more socket was bound, the newest, where the listener tells which
abbrev pub BindsOne : Option (List Socket) → Option (List Socket) → Role → List ℕ → Type 0
BindsOne None after role path = after ≡ None
BindsOne (Some bound) after role path = after ≡ Some (record { role = role; path = path } ∷ bound)

-- one more connection was given, the newest, whose input has these bytes left, where the listener tells what it gave
abbrev pub GivesOne : Option (List Connection) → Option (List Connection) → Role → Option (List ℕ) → Type 0
GivesOne None after role left = after ≡ None
GivesOne (Some given) after role left = (bytes : List ℕ) × (left ≡ Some bytes) × (after ≡ Some (record { role = role; bytes = bytes } ∷ given))

-- what a listener gave before and after it was asked for a connection
abbrev pub Gives : {R K : Type 0} → (R → Option (List ℕ)) → Option (List Connection) → Option (List Connection) → Accepted R K → Type 0
Gives left before after (accepted.Conn role input output) = GivesOne before after role (left input)
Gives left before after accepted.Quiet = after ≡ before

-- an input has left what the peer was told to send, where that was told
abbrev pub IsPeer : Option (List ℕ) → Option (List ℕ) → Type 0
IsPeer None left = Unit {0}
IsPeer (Some bytes) left = left ≡ Some bytes
