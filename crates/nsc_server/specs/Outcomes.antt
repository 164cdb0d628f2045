-- What came of one connection.
use Rattle.std.specs.Prelude.{◌≡◌, ◌≢◌, ℕ, List, [], ◌∷◌, ◌⊎◌, Option, Some, None, IfSome}
use Rattle.nsc_outside.specs.Stream.{Moves, IsDrained, Grows, GrowsByFront}
use Rattle.nsc_outside.specs.StreamAt.{StreamAt, stream_out}
use Rattle.nsc_model.specs.declared.kind.Db.{Db}
use Rattle.nsc_model.specs.declared.conf.DbConf.{DbConf}
use Rattle.nsc_model.specs.declared.answer.Request.{Request}
use Rattle.nsc_model.specs.declared.databases.Databases.{Databases}
use Rattle.nsc_model.specs.declared.store.LookupFault.{LookupFault}
use Rattle.nsc_model.specs.declared.store.LookupFault.TheVariants as fault
use Rattle.nsc_model.specs.declared.fault.CacheFault.{CacheFault}
use Rattle.nsc_model.specs.declared.fault.CacheFault.TheVariants as cache_fault
use Rattle.nsc_model.specs.declared.store.Given.{Given}
use Rattle.nsc_model.specs.declared.store.Stats.{Stats}
use Rattle.nsc_model.specs.Databases.{database_in}
use Rattle.nsc_model.specs.History.{Legal, NoneLive}
use Rattle.nsc_model.specs.Kinds.{database_of, db_named}
use Rattle.nsc_model.specs.Reads.{Rose}
use Rattle.nsc_model.specs.Stores.{GivesAnswer, GivesUp, IsCounted, IsEmptied, IsInvalidateFault, IsSpent, IsUnmoved, LoadedLastCycle, PassAt, reply_of}
use Rattle.nsc_model.specs.Wire.{Asked, Look, Shutdown, Stat, Invalidate, Short, field, request_of}
use Rattle.nsc_sockets.specs.declared.role.Role.{Role}
use Rattle.nsc_server.specs.declared.served.Served.{Served}
use Rattle.nsc_server.specs.declared.served.Served.TheVariants as served
use Rattle.nsc_server.specs.declared.served.Closing.{Closing}
use Rattle.nsc_server.specs.declared.served.Closing.TheVariants as closing
use Rattle.nsc_server.specs.declared.scope.Scopes.{Scopes}
use Rattle.nsc_server.specs.Requests.{IsNeeded, closing_of}
use Rattle.nsc_server.specs.Scopes.{IsFoundOnly, IsKeptBack}
use Rattle.nsc_server.specs.Passes.{OthersThan, passes_at}
use Rattle.nsc_outside.specs.declared.stream.Sink as sink
use Rattle.nsc_model.specs.declared.store.Store as store
use Rattle.nsc_server.specs.Stats.{stats_text}

-- ---- faults of a store

-- what a fault of a lookup, and one of an invalidation, are for a connection
abbrev pub served_by : LookupFault → Served
served_by fault.NoMemory = served.NoMemory
served_by (fault.Spent count) = served.Spent count
served_by (fault.SourceFault file) = served.SourceFault file
served_by (fault.TooLong file size) = served.TooLong file size

abbrev pub served_after : CacheFault → Served
served_after cache_fault.NoMemory = served.NoMemory
served_after (cache_fault.Spent count) = served.Spent count

-- ---- replies

-- the fields that answer a control request: done, and EINVAL where the name is no database
abbrev pub done : List ℕ
done = field 0

abbrev pub no_database : List ℕ
no_database = field 22

-- a pass was answered, as its store says at this moment, and what it has seen is legal
pub record IsLookReply (settings : DbConf) (moment : ℕ) (request : Request) (before after : PassAt) (reply : List ℕ) : Type 0 where
  pub legal : Legal after.seen
  pub given : Given
  pub says : reply_of given ≡ reply
  pub gives : GivesAnswer settings after.words moment before.seen after.seen (LoadedLastCycle before after) request given

-- a database was emptied, or none has the name
abbrev pub IsInvalidateReply : Option Db → Databases PassAt → Databases PassAt → List ℕ → Type 0
IsInvalidateReply (Some which) before after reply =
    (reply ≡ done) × Legal (database_in after which).seen × (epoch : ℕ) × IsEmptied (database_in before which).seen (database_in after which).seen epoch
IsInvalidateReply None before after reply = (reply ≡ no_database) × (after ≡ before)

-- the counts are those of a database of these settings, as the pass has seen it
pub record IsCountOf (settings : DbConf) (after : PassAt) (stats : Stats) : Type 0 where
  pub legal : Legal after.seen
  pub counted : IsCounted settings after.words after.seen stats
  pub enabled : stats.enabled ≡ settings.enabled

-- the counts of the four databases, in the order passwd, group, hosts and services
pub record AreCounts (settings : Databases DbConf) (after : Databases PassAt) (stats : List Stats) : Type 0 where
  pub passwd : Stats
  pub group : Stats
  pub hosts : Stats
  pub services : Stats
  pub passwd_is : IsCountOf settings.passwd after.passwd passwd
  pub group_is : IsCountOf settings.group after.group group
  pub hosts_is : IsCountOf settings.hosts after.hosts hosts
  pub services_is : IsCountOf settings.services after.services services
  pub all : stats ≡ passwd ∷ group ∷ hosts ∷ services ∷ []

-- the text of their counts
abbrev pub IsStatReply : Databases DbConf → Databases PassAt → List ℕ → Type 0
IsStatReply settings after reply = (stats : List Stats) × AreCounts settings after stats × (reply ≡ stats_text stats)

-- the reply to what was asked, where the passes were so at entry and are so at exit
abbrev pub IsReply : Databases DbConf → ℕ → Asked → Databases PassAt → Databases PassAt → List ℕ → Type 0
IsReply settings moment (Look request) before after reply =
    IsLookReply (database_in settings (database_of request.kind)) moment request (database_in before (database_of request.kind)) (database_in after (database_of request.kind)) reply
IsReply settings moment Shutdown before after reply = (reply ≡ done) × (after ≡ before)
IsReply settings moment Stat before after reply = IsStatReply settings after reply
IsReply settings moment (Invalidate name) before after reply = IsInvalidateReply (db_named name) before after reply
IsReply settings moment _ before after reply = ⊥

-- why there is no reply: as the store's call gave up; what the pass has seen is legal
pub record IsLookFault (settings : DbConf) (request : Request) (before after : PassAt) (by : Served) : Type 0 where
  pub legal : Legal after.seen
  pub cause : LookupFault
  pub told : by ≡ served_by cause
  pub gives_up : GivesUp settings before.seen after.seen request before.faults after.faults before.file_faults after.file_faults cause

abbrev pub IsInvalidateRefusal : Option Db → Databases PassAt → Databases PassAt → Served → Type 0
IsInvalidateRefusal (Some which) before after by =
    (f : CacheFault) × (by ≡ served_after f) × Legal (database_in after which).seen ×
    IsInvalidateFault f (database_in after which).seen (LoadedLastCycle (database_in before which) (database_in after which))
IsInvalidateRefusal None before after by = ⊥

abbrev pub IsRefusal : Databases DbConf → Asked → Databases PassAt → Databases PassAt → Served → Type 0
IsRefusal settings (Look request) before after by =
    IsLookFault (database_in settings (database_of request.kind)) request (database_in before (database_of request.kind)) (database_in after (database_of request.kind)) by
IsRefusal settings Stat before after by = by ≡ served.NoMemory
IsRefusal settings (Invalidate name) before after by = IsInvalidateRefusal (db_named name) before after by
IsRefusal settings _ before after by = ⊥

-- the passes of the databases that what was asked does not concern are as before
abbrev pub OthersStay : Asked → Databases PassAt → Databases PassAt → Type 0
OthersStay (Look request) before after = OthersThan (database_of request.kind) before after
OthersStay (Invalidate name) before after = (other : Db) → db_named name ≢ Some other → database_in after other ≡ database_in before other
OthersStay Stat before after = Unit {0}
OthersStay _ before after = after ≡ before

-- ---- the whole

-- what an answer changes: the output, and the passes
pub record Side : Type 0 where
  pub output : StreamAt
  pub passes : Databases PassAt

abbrev pub side : {S P K : Type 0} → store.Ghosts S P → sink.Ghosts K → Databases P → K → Side
side stores sinks passes output = record { output = stream_out sinks output; passes = passes_at stores passes }

-- a reply was written, and this came of it; or the output failed, and took a front of it
abbrev pub WritesReply : StreamAt → StreamAt → List ℕ → Served → Served → Type 0
WritesReply before after reply replied by =
    ((by ≡ replied) × Grows before.bytes after.bytes reply × (after.faults ≡ before.faults))
    ⊎ ((by ≡ served.WriteFault) × GrowsByFront before.bytes after.bytes reply × Rose before.faults after.faults)

-- the reply was written whole, and is not one that is kept back
pub record IsReplied (settings : Databases DbConf) (scopes : Scopes) (moment : ℕ) (asked : Asked) (before after : Side) : Type 0 where
  pub reply : List ℕ
  pub is_reply : IsReply settings moment asked before.passes after.passes reply
  pub told : IsKeptBack scopes asked reply → ⊥
  pub grown : Grows before.output.bytes after.output.bytes reply
  pub calm : after.output.faults ≡ before.output.faults

-- the output failed, and took a front of the reply, which is not one that is kept back
pub record IsCutShort (settings : Databases DbConf) (scopes : Scopes) (moment : ℕ) (asked : Asked) (before after : Side) : Type 0 where
  pub reply : List ℕ
  pub is_reply : IsReply settings moment asked before.passes after.passes reply
  pub told : IsKeptBack scopes asked reply → ⊥
  pub front : GrowsByFront before.output.bytes after.output.bytes reply
  pub failed : Rose before.output.faults after.output.faults

-- nothing was written, since the reply is kept back
pub record KeepsBack (settings : Databases DbConf) (scopes : Scopes) (moment : ℕ) (asked : Asked) (before after : Side) (why : Closing) : Type 0 where
  pub cause : why ≡ closing.NotFound
  pub reply : List ℕ
  pub is_reply : IsReply settings moment asked before.passes after.passes reply
  pub kept_back : IsKeptBack scopes asked reply
  pub silent : after.output ≡ before.output

-- nothing was written, since there is no reply
pub record HasNoReply (settings : Databases DbConf) (asked : Asked) (before after : Side) (by : Served) : Type 0 where
  pub silent : after.output ≡ before.output
  pub refusal : IsRefusal settings asked before.passes after.passes by

-- SHUTDOWN is told by an outcome of its own
abbrev pub replied_to : Asked → Served
replied_to Shutdown = served.ShutDown
replied_to _ = served.Replied

-- what was asked is answered, or the answer is kept back, or fails
abbrev pub Answers : Databases DbConf → Scopes → ℕ → Asked → Side → Side → Served → Type 0
Answers settings scopes moment asked before after served.Replied = (replied_to asked ≡ served.Replied) × IsReplied settings scopes moment asked before after
Answers settings scopes moment asked before after served.ShutDown = (asked ≡ Shutdown) × IsReplied settings scopes moment asked before after
Answers settings scopes moment asked before after served.WriteFault = IsCutShort settings scopes moment asked before after
Answers settings scopes moment asked before after (served.Closed why) = KeepsBack settings scopes moment asked before after why
Answers settings scopes moment asked before after (served.Ended have) = ⊥
Answers settings scopes moment asked before after served.ReadFault = ⊥
Answers settings scopes moment asked before after (served.SourceFault file) = HasNoReply settings asked before after (served.SourceFault file)
Answers settings scopes moment asked before after (served.TooLong file size) = HasNoReply settings asked before after (served.TooLong file size)
Answers settings scopes moment asked before after (served.Spent count) = HasNoReply settings asked before after (served.Spent count)
Answers settings scopes moment asked before after served.NoMemory = HasNoReply settings asked before after served.NoMemory

-- what came of a connection on which this was asked: it is refused or left to who asks, or not whole, or answered
abbrev pub Ends : Databases DbConf → Scopes → ℕ → Role → Asked → Option (List ℕ) → Side → Side → Served → Type 0
Ends settings scopes moment on asked left before after (served.Closed why) =
    ((closing_of scopes on asked ≡ Some why) × (after ≡ before))
    ⊎ ((closing_of scopes on asked ≡ None) × OthersStay asked before.passes after.passes ×
    Answers settings scopes moment asked before after (served.Closed why))
Ends settings scopes moment on asked left before after (served.Ended have) = (asked ≡ Short have) × IsDrained left × (after ≡ before)
Ends settings scopes moment on asked left before after served.ReadFault = ((have : ℕ) × (asked ≡ Short have)) × (after ≡ before)
Ends settings scopes moment on asked left before after by =
    (closing_of scopes on asked ≡ None) × OthersStay asked before.passes after.passes × Answers settings scopes moment asked before after by

-- the input's count of faults rose where it failed, and else stays
abbrev pub CountsInput : Served → ℕ → ℕ → Type 0
CountsInput served.ReadFault before after = Rose before after
CountsInput _ before after = after ≡ before

-- ---- completeness

-- of a lookup: no count of faults of the pass rose, and the count of versions is not at its end
pub record NoLookFault (before after : PassAt) : Type 0 where
  pub calm : Rose before.faults after.faults → ⊥
  pub count_left : (count : ℕ) → IsSpent after.seen count → ⊥

-- of an invalidation: no count that it needs is at its end: not that of the invalidations, nor was CYCLE loaded as 2^62 with every entry
-- ended
abbrev pub NoInvalidateFault : PassAt → PassAt → Type 0
NoInvalidateFault before after = (count : ℕ) → IsUnmoved after.seen (LoadedLastCycle before after) count (NoneLive after.seen) → ⊥

abbrev pub NoStoreFault : Asked → Databases PassAt → Databases PassAt → Type 0
NoStoreFault (Look request) before after = NoLookFault (database_in before (database_of request.kind)) (database_in after (database_of request.kind))
NoStoreFault (Invalidate name) before after = IfSome (db_named name) (λ which. NoInvalidateFault (database_in before which) (database_in after which))
NoStoreFault _ before after = Unit {0}

-- nothing failed
pub record NoFault (asked : Asked) (input input' : StreamAt) (before after : Side) : Type 0 where
  pub input_calm : Rose input.faults input'.faults → ⊥
  pub output_calm : Rose before.output.faults after.output.faults → ⊥
  pub store_calm : NoStoreFault asked before.passes after.passes

-- what was asked is whole, may be asked on a socket of this role, and is not left by its scope
pub record IsAnswerable (scopes : Scopes) (on : Role) (asked : Asked) : Type 0 where
  pub open_to : closing_of scopes on asked ≡ None
  pub whole : (have : ℕ) → asked ≡ Short have → ⊥

-- If nothing failed it is answered, unless memory was short; or the reply is kept back, if only found entries are told.
abbrev pub Completes : Scopes → Role → Asked → StreamAt → StreamAt → Side → Side → Served → Type 0
Completes scopes on asked input input' before after by =
    IsAnswerable scopes on asked → NoFault asked input input' before after
    → (by ≡ replied_to asked) ⊎ ((by ≡ served.NoMemory) ⊎ ((by ≡ served.Closed closing.NotFound) × IsFoundOnly scopes asked))

-- one connection: what was read of the input, no further than it was needed, and what came of it
pub record Serves (settings : Databases DbConf) (scopes : Scopes) (moment : ℕ) (on : Role) (input input' : StreamAt) (before after : Side) (by : Served) : Type 0 where
  pub front : List ℕ
  pub moved : Moves input.bytes input'.bytes front
  pub needed : IsNeeded front
  pub counted : CountsInput by input.faults input'.faults
  pub ends : Ends settings scopes moment on (request_of front) input'.bytes before after by
  pub complete : Completes scopes on (request_of front) input input' before after by
