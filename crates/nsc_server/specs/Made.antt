-- A reply, and what the calls of one of the four stores give.
use Rattle.std.specs.Prelude.{ℕ, List}
use Rattle.nsc_model.specs.declared.answer.Request.{Request}
use Rattle.nsc_model.specs.declared.databases.Databases.{Databases}
use Rattle.nsc_model.specs.declared.fault.CacheFault.{CacheFault}
use Rattle.nsc_model.specs.declared.kind.Db.{Db}
use Rattle.nsc_model.specs.declared.store.Given.{Given}
use Rattle.nsc_model.specs.declared.store.LookupFault.{LookupFault}
use Rattle.nsc_model.specs.declared.store.Store as store
use Rattle.nsc_model.specs.Databases.{database_in}
use Rattle.nsc_model.specs.Kinds.{database_of}
use Rattle.nsc_model.specs.Stores.{GivesAnswerAt, GivesUpAt, IsInvalidateFault, LoadedLastCycle}
use Rattle.nsc_model.specs.Wire.{Asked}
use Rattle.nsc_server.specs.declared.made.Made.{Made}
use Rattle.nsc_server.specs.declared.made.Made.TheVariants as made
use Rattle.nsc_server.specs.declared.served.Served.{Served}
use Rattle.nsc_server.specs.Outcomes.{IsLookFault, IsLookReply, IsReply, done, no_database}
use Rattle.nsc_server.specs.Passes.{passes_at, settings_of}

-- its bytes
abbrev pub bytes_of : Made → List ℕ
bytes_of (made.Told bytes) = bytes
bytes_of made.Done = done
bytes_of made.NoDatabase = no_database

-- ---- the calls of one of the four stores

-- a lookup in this database gave this at a moment
abbrev pub GivesAnswerIn : {S P : Type 0} → store.Ghosts S P → Databases S → ℕ → Databases P → Databases P → Db → Request → Given → Type 0
GivesAnswerIn g stores moment before after which request given =
    let pass = database_in (passes_at g before) which in
    let pass' = database_in (passes_at g after) which in
    GivesAnswerAt (database_in (settings_of g stores) which) moment pass pass' request given

-- a lookup in this database gave up for this cause
abbrev pub GivesUpIn : {S P : Type 0} → store.Ghosts S P → Databases S → Databases P → Databases P → Db → Request → LookupFault → Type 0
GivesUpIn g stores before after which request cause =
    let pass = database_in (passes_at g before) which in
    let pass' = database_in (passes_at g after) which in
    GivesUpAt (database_in (settings_of g stores) which) pass pass' request cause

-- an invalidation of this database gave up for this cause
abbrev pub IsInvalidateFaultIn : {S P : Type 0} → store.Ghosts S P → Databases P → Databases P → Db → CacheFault → Type 0
IsInvalidateFaultIn g before after which cause =
    let pass = database_in (passes_at g before) which in
    let pass' = database_in (passes_at g after) which in
    IsInvalidateFault cause pass'.seen (LoadedLastCycle pass pass')

-- ---- what is made of them

-- the reply to what was asked at a moment
abbrev pub IsReplyIn : {S P : Type 0} → store.Ghosts S P → Databases S → ℕ → Databases P → Databases P → Asked → Made → Type 0
IsReplyIn g stores moment before after asked reply = IsReply (settings_of g stores) moment asked (passes_at g before) (passes_at g after) (bytes_of reply)

-- the reply to a lookup at a moment, by the database of its kind
abbrev pub IsLookReplyIn : {S P : Type 0} → store.Ghosts S P → Databases S → ℕ → Databases P → Databases P → Request → Made → Type 0
IsLookReplyIn g stores moment before after request reply =
    let which = database_of request.kind in
    let pass = database_in (passes_at g before) which in
    let pass' = database_in (passes_at g after) which in
    IsLookReply (database_in (settings_of g stores) which) moment request pass pass' (bytes_of reply)

-- why there is no reply to a lookup, by the database of its kind
abbrev pub IsLookFaultIn : {S P : Type 0} → store.Ghosts S P → Databases S → Databases P → Databases P → Request → Served → Type 0
IsLookFaultIn g stores before after request by =
    let which = database_of request.kind in
    let pass = database_in (passes_at g before) which in
    let pass' = database_in (passes_at g after) which in
    IsLookFault (database_in (settings_of g stores) which) request pass pass' by
