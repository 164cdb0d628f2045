-- What came of a request that was looked up in place, before any byte of it was taken.
use Rattle.std.specs.Prelude.{◌≡◌, ℕ, ◌+◌, ◌%◌, ◌<◌, ◌⊎◌, Bool, List, Option, Some, None, length, take}
use Rattle.nsc_outside.specs.Stream.{Grows}
use Rattle.nsc_outside.specs.StreamAt.{StreamAt}
use Rattle.nsc_model.specs.declared.kind.Db.{Db}
use Rattle.nsc_model.specs.declared.answer.Request.{Request}
use Rattle.nsc_model.specs.declared.databases.Databases.{Databases}
use Rattle.nsc_model.specs.declared.in_place.InPlace.{InPlace}
use Rattle.nsc_model.specs.declared.in_place.InPlace.TheVariants.{Hit}
use Rattle.nsc_model.specs.Databases.{database_in}
use Rattle.nsc_model.specs.History.{Legal}
use Rattle.nsc_model.specs.InPlace.{InPlaceClause}
use Rattle.nsc_model.specs.Kinds.{database_of}
use Rattle.nsc_model.specs.Reads.{Rose}
use Rattle.nsc_model.specs.Wire.{Look, request_of}
use Rattle.nsc_model.specs.Stores.{PassAt}
use Rattle.nsc_sockets.specs.declared.role.Role.TheVariants as role
use Rattle.nsc_server.specs.declared.scope.Scopes.{Scopes}
use Rattle.nsc_server.specs.declared.in_place.ServedInPlace.{ServedInPlace}
use Rattle.nsc_server.specs.declared.in_place.ServedInPlace.TheVariants.{Found, Not, Broken}
use Rattle.nsc_server.specs.Outcomes.{Side}
use Rattle.nsc_server.specs.Requests.{closing_of}
use Rattle.nsc_server.specs.Scopes.{IsKeptBack}

-- between these moments a pass began one search for a request, which gave this answer, and left this reply
pub record Searches (before after : PassAt) (request : Request) (reply : List ℕ) (answer : InPlace) : Type 0 where
  pub once : after.searches ≡ before.searches + 1
  pub legal : Legal after.seen
  pub answers : InPlaceClause before.seen after.seen request after.first after.last reply answer

-- bytes ask for an entry of this database that a search found. Its reply is this one, and not kept back
pub record IsHit (scopes : Scopes) (bytes : List ℕ) (before after : Databases PassAt) (which : Db) (not_found : Bool) (reply : List ℕ) : Type 0 where
  pub request : Request
  pub asks : request_of bytes ≡ Look request
  pub concerns : database_of request.kind ≡ which
  pub open_to : closing_of scopes role.Plain (Look request) ≡ None
  pub told : IsKeptBack scopes (Look request) reply → ⊥
  pub number : ℕ
  pub version : ℕ
  pub found : Searches (database_in before which) (database_in after which) request reply (Hit number version not_found)

-- an output took the whole reply
pub record IsWritten (before after : StreamAt) (reply : List ℕ) : Type 0 where
  pub grown : Grows before.bytes after.bytes reply
  pub calm : after.faults ≡ before.faults

-- it took a front of the reply, and not all
pub record IsCut (before after : StreamAt) (reply : List ℕ) : Type 0 where
  pub count : ℕ
  pub some : 0 < count
  pub not_all : count < length reply
  pub grown : Grows before.bytes after.bytes (take count reply)
  pub calm : after.faults ≡ before.faults

-- or it failed, and took nothing
pub record HasFailed (before after : StreamAt) : Type 0 where
  pub same : after.bytes ≡ before.bytes
  pub failed : Rose before.faults after.faults

abbrev pub IsBroken : StreamAt → StreamAt → List ℕ → Type 0
IsBroken before after reply = IsCut before after reply ⊎ HasFailed before after

-- a pass began one search between these moments, and loaded an odd CYCLE first: a compaction was under way, or its table was left
abbrev pub IsStale : PassAt → PassAt → Type 0
IsStale before after = (after.searches ≡ before.searches + 1) × (after.first % 2 ≡ 1)

-- this is the database whose pass is stale, if there is one
abbrev pub TellsStale : Databases PassAt → Databases PassAt → Option Db → Type 0
TellsStale before after (Some which) = IsStale (database_in before which) (database_in after which)
TellsStale before after None = (which : Db) → IsStale (database_in before which) (database_in after which) → ⊥

-- a hit was written whole, or broken off; or nothing was written
abbrev pub ServesInPlace : Scopes → List ℕ → Side → Side → ServedInPlace → Type 0
ServesInPlace scopes bytes before after (Found which not_found) =
    (reply : List ℕ) × IsHit scopes bytes before.passes after.passes which not_found reply × IsWritten before.output after.output reply
ServesInPlace scopes bytes before after (Not stale) = (after.output ≡ before.output) × TellsStale before.passes after.passes stale
ServesInPlace scopes bytes before after Broken =
    (which : Db) × (not_found : Bool) × (reply : List ℕ) × IsHit scopes bytes before.passes after.passes which not_found reply ×
    IsBroken before.output after.output reply

-- what came of an offer of a hit's reply
abbrev pub TakesReply : StreamAt → StreamAt → List ℕ → Db → Bool → ServedInPlace → Type 0
TakesReply before after reply which not_found (Found w n) = (w ≡ which) × (n ≡ not_found) × IsWritten before after reply
TakesReply before after reply which not_found (Not stale) = (after ≡ before) × (stale ≡ None)
TakesReply before after reply which not_found Broken = IsBroken before after reply
