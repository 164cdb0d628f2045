-- A listener in memory.
use Rattle.std.specs.Prelude.{◌≡◌, ℕ, ◌+◌, ◌⊎◌, List, [], ◌∷◌, Option, Some, None, Result, Ok, Err, false}
use Rattle.nsc_outside.specs.declared.stream.Failed.{Failed}
use Rattle.nsc_outside.specs.Release.{Release}
use Rattle.nsc_sockets.specs.Connections.{Connection, Socket}
use Rattle.nsc_sockets.specs.SharedSink.{SharedSink}
use Rattle.nsc_sockets.specs.declared.listener.Accepted.{Accepted}
use Rattle.nsc_sockets.specs.declared.listener.Accepted.TheVariants as accepted
use Rattle.nsc_sockets.specs.declared.arrival.Arrival.{Arrival}
use Rattle.nsc_sockets.specs.declared.arrival.Arrival.TheVariants as arrival
use Rattle.nsc_sockets.specs.declared.arrival.Peer.{Peer}

-- it is quiet until a flag is found set, but no more often than this
pub record Wait : Type 0 where
  pub until : Release
  pub turns : ℕ

-- a wait that begins
abbrev pub begun : Release → Wait
begun flag = record { until = flag; turns = 1000 }

-- the wait that has begun, if one has, and what comes then; what came and what was bound, the newest first; the peers that are still
-- to be reached; and how many calls have failed
pub record MemListener : Type 0 where
  pub wait : Option Wait
  pub arrivals : List Arrival
  pub given : List Connection
  pub bound : List Socket
  pub peers : List Peer
  pub faults : ℕ

-- a wait went on, for one more time, since its flag was not found set
pub record WaitGoesOn (before : Wait) (found : Option Arrival) (after : Option Wait) : Type 0 where
  pub unset : before.until.is_set ≡ false
  pub later : Wait
  pub turn : before.turns ≡ later.turns + 1
  pub same : later.until ≡ before.until
  pub kept : after ≡ Some later
  pub quiet : found ≡ Some arrival.Quiet

-- what was found where these are to come, and what is to come after it. A wait that is over is passed; when its flag was set
-- is known to no one
abbrev pub FindsArrival : List Arrival → Option Arrival → Option Wait → List Arrival → Type 0
FindsArrival [] found wait left = (found ≡ None) × (wait ≡ None) × (left ≡ [])
FindsArrival (arrival.Conn role input output ∷ rest) found wait left = (found ≡ Some (arrival.Conn role input output)) × (wait ≡ None) × (left ≡ rest)
FindsArrival (arrival.Quiet ∷ rest) found wait left = (found ≡ Some arrival.Quiet) × (wait ≡ None) × (left ≡ rest)
FindsArrival (arrival.QuietUntil flag ∷ rest) found wait left = (WaitGoesOn (begun flag) found wait × (left ≡ rest)) ⊎ FindsArrival rest found wait left

-- the same where a wait may have begun
abbrev pub FindsNext : Option Wait → List Arrival → Option Arrival → Option Wait → List Arrival → Type 0
FindsNext None arrivals found after left = FindsArrival arrivals found after left
FindsNext (Some wait) arrivals found after left = (WaitGoesOn wait found after × (left ≡ arrivals)) ⊎ FindsArrival arrivals found after left

-- what a listener answers that found this
abbrev pub answer_to : Option Arrival → Result (Accepted (List ℕ) SharedSink) Failed
answer_to None = Err (record {})
answer_to (Some (arrival.Conn role input output)) = Ok (accepted.Conn role input output)
answer_to (Some arrival.Quiet) = Ok accepted.Quiet
answer_to (Some (arrival.QuietUntil flag)) = Ok accepted.Quiet

-- and the connections that it gave then
abbrev pub given_after : Option Arrival → List Connection → List Connection
given_after None given = given
given_after (Some (arrival.Conn role input output)) given = record { role = role; bytes = input } ∷ given
given_after (Some arrival.Quiet) given = given
given_after (Some (arrival.QuietUntil flag)) given = given

-- a listener was asked for a connection
pub record Accepts (before after : MemListener) (answer : Result (Accepted (List ℕ) SharedSink) Failed) : Type 0 where
  pub found : Option Arrival
  pub next : FindsNext before.wait before.arrivals found after.wait after.arrivals
  pub answered : answer ≡ answer_to found
  pub gave : after.given ≡ given_after found before.given
  pub peers : after.peers ≡ before.peers
