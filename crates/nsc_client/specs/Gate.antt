-- What came of a connection to the gate.
use Rattle.std.specs.Prelude.{◌≡◌, ◌⊎◌, ℕ, ◌+◌, List, [], ◌∷◌, Contains}
use Rattle.nsc_model.specs.declared.answer.Request.{Request}
use Rattle.nsc_model.specs.declared.databases.Databases.{Databases}
use Rattle.nsc_model.specs.declared.kind.Db.{Db}
use Rattle.nsc_model.specs.declared.kind.Kind.TheVariants as kind
use Rattle.nsc_model.specs.declared.record.Record.{Record}
use Rattle.nsc_model.specs.declared.store.LookupFault.{LookupFault}
use Rattle.nsc_model.specs.declared.store.LookupFault.TheVariants as fault
use Rattle.nsc_model.specs.declared.store.Store as store
use Rattle.nsc_model.specs.Databases.{database_in}
use Rattle.nsc_model.specs.History.{Answered, Legal}
use Rattle.nsc_model.specs.Kinds.{database_of}
use Rattle.nsc_model.specs.Stores.{Continues, GivesUpAt, StaysCalm}
use Rattle.nsc_model.specs.Wire.{Spells}
use Rattle.nsc_client.specs.declared.link.LinkFault.{LinkFault}
use Rattle.nsc_client.specs.declared.line.LineAsks.{LineAsks}
use Rattle.nsc_client.specs.declared.line.LineAsks.TheVariants.{Bad, One, HostNamed}
use Rattle.nsc_client.specs.GateText.{Told}
use Rattle.nsc_client.specs.Links.{fault_of}

-- ---- the stores of the four databases, and the passes of one caller

-- each store is of the database that its field names
abbrev pub AreNamed : {S P : Type 0} → store.Ghosts S P → Databases S → Type 0
AreNamed g stores = (which : Db) → g.db (database_in stores which) ≡ which

-- each pass is one of its store
abbrev pub ArePasses : {S P : Type 0} → store.Ghosts S P → Databases S → Databases P → Type 0
ArePasses g stores passes = (which : Db) → g.is_pass (database_in stores which) (database_in passes which)

-- what the pass of a database has seen
abbrev pub seen_in : {S P : Type 0} → store.Ghosts S P → Databases P → Db → List Record
seen_in g passes which = (g.at (database_in passes which)).seen

-- what each pass has seen is what it had seen; or it goes on from there, and is legal
abbrev pub SeeMore : {S P : Type 0} → store.Ghosts S P → Databases P → Databases P → Type 0
SeeMore g before after = (which : Db) → (seen_in g after which ≡ seen_in g before which) ⊎ Continues (seen_in g before which) (seen_in g after which)

-- no count of faults of any pass changed
abbrev pub AreCalm : {S P : Type 0} → store.Ghosts S P → Databases P → Databases P → Type 0
AreCalm g before after =
    (which : Db) → StaysCalm (g.at (database_in before which)) (g.at (database_in after which))

-- how often the four passes together have begun a search in place
abbrev pub searches_of : {S P : Type 0} → store.Ghosts S P → Databases P → ℕ
searches_of g passes = (g.at passes.passwd).searches + (g.at passes.group).searches + (g.at passes.hosts).searches + (g.at passes.services).searches

-- ---- lines and what answers them

-- a reply answers its request, by what the pass of its database had seen and has seen, which is legal
pub record IsTold {S P : Type 0} (g : store.Ghosts S P) (before after : Databases P) (told : Told) : Type 0 where
  pub bytes : List ℕ
  pub answered : Answered (seen_in g before (database_of told.request.kind)) (seen_in g after (database_of told.request.kind)) told.request bytes
  pub spelled : Spells told.request.kind told.reply bytes
  pub legal : Legal (seen_in g after (database_of told.request.kind))

-- ---- refusals

-- the requests that a line may ask
abbrev pub requests_of : LineAsks → List Request
requests_of Bad = []
requests_of (One request) = request ∷ []
requests_of (HostNamed name) = record { kind = kind.HostName; key = name } ∷ record { kind = kind.HostName6; key = name } ∷ []

-- the lookup of a request gave up for this cause, by the pass of its database
abbrev pub GaveUp : {S P : Type 0} → store.Ghosts S P → Databases S → Databases P → Databases P → Request → LookupFault → Type 0
GaveUp g stores before after request cause =
    let which = database_of request.kind in
    let pass = database_in before which in
    let pass' = database_in after which in
    GivesUpAt (g.settings (database_in stores which)) (g.at pass) (g.at pass') request cause

-- memory was short; or the lookup of one of these requests gave up
abbrev pub IsCause : {S P : Type 0} → store.Ghosts S P → Databases S → Databases P → Databases P → List Request → LookupFault → Type 0
IsCause g stores before after requests fault.NoMemory = AreCalm g before after
IsCause g stores before after requests cause = (request : Request) × Contains requests request × GaveUp g stores before after request cause

-- why one of these requests was refused: a link to a store gives no other fault
abbrev pub IsRefusal : {S P : Type 0} → store.Ghosts S P → Databases S → Databases P → Databases P → List Request → LinkFault → Type 0
IsRefusal g stores before after requests refused = (cause : LookupFault) × (refused ≡ fault_of cause) × IsCause g stores before after requests cause
