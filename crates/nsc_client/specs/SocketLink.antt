-- A link to whoever serves a socket.
use Rattle.std.specs.Prelude.{◌≡◌, ◌⊎◌, ℕ, ◌<◌, List, ◌++◌, length, Option, Some, None, Result, Ok, Err}
use Rattle.nsc_outside.specs.CallPlan.{risen}
use Rattle.nsc_outside.specs.Stream.{Grows}
use Rattle.nsc_outside.specs.StreamAt.{StreamAt, stream_in, stream_out}
use Rattle.nsc_outside.specs.declared.stream.Source as source
use Rattle.nsc_outside.specs.declared.stream.Sink as sink
use Rattle.nsc_model.specs.declared.kind.Kind.{Kind}
use Rattle.nsc_model.specs.Answer.{reply_limit}
use Rattle.nsc_model.specs.Kinds.{type_number}
use Rattle.nsc_model.specs.Reads.{Rose}
use Rattle.nsc_model.specs.Wire.{field}
use Rattle.nsc_wire.specs.Replies.{decoded}
use Rattle.nsc_sockets.specs.Connections.{IsPeer}
use Rattle.nsc_sockets.specs.declared.listener.Listener as listener
use Rattle.nsc_client.specs.declared.link.LinkFault.{LinkFault}
use Rattle.nsc_client.specs.declared.link.LinkFault.TheVariants.{NoMemory, Failed, Refused, BadReply}
use Rattle.nsc_client.specs.Sent.{SpellsReply}

-- what connects, the path of the socket, and how many calls have failed
pub record SocketLink (N : Type 0) : Type 0 where
  pub listener : N
  pub path : List ℕ
  pub faults : ℕ

-- the count after a call
abbrev pub faults_after : ℕ → Result (List ℕ) LinkFault → ℕ
faults_after count (Ok bytes) = count
faults_after count (Err NoMemory) = count
faults_after count (Err Failed) = risen count
faults_after count (Err (Refused cause)) = count
faults_after count (Err (BadReply at)) = count

-- ---- what is sent

-- the bytes of a request: its version, its type, the length of its key, and the key
abbrev pub request_for : Kind → List ℕ → List ℕ
request_for by key = field 2 ++ field (type_number by) ++ field (length key) ++ key

-- where a connection was read, it had been sent this before
abbrev pub IsSent : Option (List ℕ) → Option (List ℕ) → List ℕ → Result (List ℕ) LinkFault → Type 0
IsSent before after request (Ok bytes) = Grows before after request
IsSent before after request (Err NoMemory) = Unit {0}
IsSent before after request (Err Failed) = Unit {0}
IsSent before after request (Err (Refused cause)) = Unit {0}
IsSent before after request (Err (BadReply at)) = Grows before after request

-- ---- what comes

-- what a peer sends begins with these bytes, where it was told
abbrev pub BeginsPeer : Option (List ℕ) → List ℕ → Type 0
BeginsPeer None front = Unit {0}
BeginsPeer (Some told) front = (rest : List ℕ) × (told ≡ front ++ rest)

-- more bytes came than a reply has, and they are too many from this place on
pub record IsTooMuch (told : Option (List ℕ)) (at : ℕ) : Type 0 where
  pub front : List ℕ
  pub begins : BeginsPeer told front
  pub long : reply_limit < length front
  pub limit : at ≡ reply_limit

-- all that the peer sent spells no reply of the kind, from this place on
pub record SpellsNone (told : Option (List ℕ)) (by : Kind) (at : ℕ) : Type 0 where
  pub bytes : List ℕ
  pub all : IsPeer told (Some bytes)
  pub broken : decoded by bytes ≡ Err at

-- what one connection answers, by what its peer sends, where that was told: all of it, which spells a reply of the kind; or why it does
-- not. Nobody at a socket tells why he gave up
abbrev pub IsOfPeer : Option (List ℕ) → Kind → Result (List ℕ) LinkFault → Type 0
IsOfPeer told by (Ok bytes) = SpellsReply by bytes × IsPeer told (Some bytes)
IsOfPeer told by (Err NoMemory) = Unit {0}
IsOfPeer told by (Err Failed) = Unit {0}
IsOfPeer told by (Err (Refused cause)) = ⊥
IsOfPeer told by (Err (BadReply at)) = IsTooMuch told at ⊎ SpellsNone told by at

-- why a connection was not read to its end
abbrev pub IsUnread : StreamAt → StreamAt → LinkFault → Type 0
IsUnread before after NoMemory = Unit {0}
IsUnread before after Failed = Rose before.faults after.faults
IsUnread before after (Refused cause) = ⊥
IsUnread before after (BadReply at) = IsTooMuch before.bytes at

-- ---- why a call failed

-- it failed only where this is so
abbrev pub FailsOnlyBy : Type 0 → Result (List ℕ) LinkFault → Type 0
FailsOnlyBy cause (Ok bytes) = Unit {0}
FailsOnlyBy cause (Err NoMemory) = Unit {0}
FailsOnlyBy cause (Err Failed) = cause
FailsOnlyBy cause (Err (Refused other)) = Unit {0}
FailsOnlyBy cause (Err (BadReply at)) = Unit {0}

-- one way of a connection failed, or the other
abbrev pub IsCut : StreamAt → StreamAt → StreamAt → StreamAt → Type 0
IsCut input input' output output' = Rose input.faults input'.faults ⊎ Rose output.faults output'.faults

-- a connection to the next peer, which was told where one was, failed
pub record ConnectionFails {I O : Type 0} (i : source.Ghosts I) (o : sink.Ghosts O) (told : Option (List ℕ)) : Type 0 where
  pub input : I
  pub input' : I
  pub output : O
  pub output' : O
  pub reached : IsPeer told (i.left input)
  pub cut : IsCut (stream_in i input) (stream_in i input') (stream_out o output) (stream_out o output')

-- what connects failed; or it connected, and the connection failed
abbrev pub IsBroken : {N I O D H : Type 0} → listener.Ghosts N I O D H → source.Ghosts I → sink.Ghosts O → N → N → Type 0
IsBroken n i o before after = Rose (n.faults before) (n.faults after) ⊎ ((n.faults after ≡ n.faults before) × ConnectionFails i o (n.peer before))

-- connections never fail
abbrev pub NeverFail : {I O : Type 0} → source.Ghosts I → sink.Ghosts O → Type 0
NeverFail i o = ((input : _) → i.faults input ≡ 0) × ((output : _) → o.faults output ≡ 0)
