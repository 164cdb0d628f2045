-- A connection on which nothing failed is answered.
use Rattle.std.proofs.Common.{◌≡◌, inl, inr, ℕ, List, length, Option, Some, None, IfSome, refl, sym, ◌∙◌, ap, subst}
use Rattle.nsc_outside.specs.Stream.{Moves}
use Rattle.nsc_outside.specs.StreamAt.{StreamAt}
use Rattle.nsc_model.specs.Reads.{Rose}
use Rattle.nsc_model.specs.declared.kind.Db.{Db}
use Rattle.nsc_model.specs.declared.conf.DbConf.{DbConf}
use Rattle.nsc_model.specs.declared.databases.Databases.{Databases}
use Rattle.nsc_model.specs.declared.store.LookupFault.{LookupFault}
use Rattle.nsc_model.specs.declared.store.LookupFault.TheVariants as fault
use Rattle.nsc_model.specs.declared.fault.CacheFault.{CacheFault}
use Rattle.nsc_model.specs.declared.fault.CacheFault.TheVariants as cache_fault
use Rattle.nsc_model.specs.Databases.{database_in}
use Rattle.nsc_model.specs.Kinds.{database_of, db_named}
use Rattle.nsc_model.specs.Stores.{IsFault, IsInvalidateFault, LoadedLastCycle, PassAt}
use Rattle.nsc_model.specs.Wire.{Asked, Look, Shutdown, Stat, Invalidate, Descriptor, Netgroup, Short, BadVersion, BadType, BadLength, request_of}
use Rattle.nsc_sockets.specs.declared.role.Role.{Role}
use Rattle.nsc_server.specs.declared.served.Served.{Served}
use Rattle.nsc_server.specs.declared.served.Served.TheVariants as served
use Rattle.nsc_server.specs.declared.served.Closing.{Closing}
use Rattle.nsc_server.specs.declared.scope.Scopes.{Scopes}
use Rattle.nsc_server.specs.Requests.{GetsShort, IsNeeded, closing_of}
use Rattle.nsc_server.specs.Outcomes.{Answers, Completes, CountsInput, Ends, IsInvalidateRefusal, IsRefusal, NoInvalidateFault, NoLookFault, NoStoreFault, OthersStay, Serves, Side, replied_to, served_after, served_by}

look_lacked : (f : LookupFault) (before after : PassAt) → IsFault f after.seen before.faults after.faults before.file_faults after.file_faults
    → NoLookFault before after → served_by f ≡ served.NoMemory
look_lacked fault.NoMemory before after is calm = refl
look_lacked (fault.Spent count) before after is calm = absurd (calm.count_left count is.0)
look_lacked (fault.SourceFault file) before after is calm = absurd (calm.calm is.all)
look_lacked (fault.TooLong file size) before after is calm = absurd (calm.calm is.0.all)

invalidate_lacked : (f : CacheFault) (before after : PassAt) → IsInvalidateFault f after.seen (LoadedLastCycle before after) → NoInvalidateFault before after → served_after f ≡ served.NoMemory
invalidate_lacked cache_fault.NoMemory before after is calm = refl
invalidate_lacked (cache_fault.Spent count) before after is calm = absurd (calm count is)

named_lacked : (which : Option Db) (before after : Databases PassAt) (by : Served) → IsInvalidateRefusal which before after by → IfSome which (λ db. NoInvalidateFault (database_in before db) (database_in after db)) → by ≡ served.NoMemory
named_lacked (Some which) before after by is calm = is.1 ∙ invalidate_lacked is.0 (database_in before which) (database_in after which) is.3 calm
named_lacked None before after by is calm = absurd is

-- a reply that is refused though no fault came is refused for want of memory
lacked : (settings : Databases DbConf) (asked : Asked) (before after : Databases PassAt) (by : Served) → IsRefusal settings asked before after by → NoStoreFault asked before after → by ≡ served.NoMemory
lacked settings (Look request) before after by is calm =
    is.told ∙ look_lacked is.cause (database_in before (database_of request.kind)) (database_in after (database_of request.kind)) is.gives_up.fault calm
lacked settings Shutdown before after by is calm = absurd is
lacked settings Stat before after by is calm = is
lacked settings (Invalidate name) before after by is calm = named_lacked (db_named name) before after by is calm
lacked settings Descriptor before after by is calm = absurd is
lacked settings Netgroup before after by is calm = absurd is
lacked settings (Short have) before after by is calm = absurd is
lacked settings (BadVersion version) before after by is calm = absurd is
lacked settings (BadType type) before after by is calm = absurd is
lacked settings (BadLength size) before after by is calm = absurd is

abbrev IsClosed : Option Closing → Type 0
IsClosed None = ⊥
IsClosed (Some why) = Unit {0}

-- where nothing failed, what may be asked is answered, or memory was short
pub completes : (settings : Databases DbConf) (scopes : Scopes) (moment : ℕ) (on : Role) (asked : Asked) (left : Option (List ℕ)) (input input' : StreamAt) (before after : Side) (by : Served)
    → Ends settings scopes moment on asked left before after by → CountsInput by input.faults input'.faults → Completes scopes on asked input input' before after by
completes settings scopes moment on asked left input input' before after served.Replied e n a f = inl (sym e.2.0)
completes settings scopes moment on asked left input input' before after served.ShutDown e n a f = inl (ap replied_to (sym e.2.0))
completes settings scopes moment on asked left input input' before after (served.Closed why) (inl e) n a f = absurd (subst IsClosed (sym e.0 ∙ a.open_to) tt)
completes settings scopes moment on asked left input input' before after (served.Closed why) (inr e) n a f = inr (inr (ap (λ w. served.Closed w) e.2.cause, e.2.kept_back.0))
completes settings scopes moment on asked left input input' before after (served.Ended have) e n a f = absurd (a.whole have e.0)
completes settings scopes moment on asked left input input' before after served.ReadFault e n a f = absurd (f.input_calm n)
completes settings scopes moment on asked left input input' before after served.WriteFault e n a f = absurd (f.output_calm e.2.failed)
completes settings scopes moment on asked left input input' before after (served.SourceFault file) e n a f =
    inr (inl (lacked settings asked before.passes after.passes (served.SourceFault file) e.2.refusal f.store_calm))
completes settings scopes moment on asked left input input' before after (served.TooLong file size) e n a f =
    inr (inl (lacked settings asked before.passes after.passes (served.TooLong file size) e.2.refusal f.store_calm))
completes settings scopes moment on asked left input input' before after (served.Spent count) e n a f =
    inr (inl (lacked settings asked before.passes after.passes (served.Spent count) e.2.refusal f.store_calm))
completes settings scopes moment on asked left input input' before after served.NoMemory e n a f = inr (inl refl)

-- ---- the whole

-- what came of an admitted request
ends_answered : (settings : Databases DbConf) (scopes : Scopes) (moment : ℕ) (on : Role) (asked : Asked) (left : Option (List ℕ)) (before after : Side) (by : Served)
    → closing_of scopes on asked ≡ None → OthersStay asked before.passes after.passes → Answers settings scopes moment asked before after by → Ends settings scopes moment on asked left before after by
ends_answered settings scopes moment on asked left before after served.Replied o s a = (o, s, a)
ends_answered settings scopes moment on asked left before after served.ShutDown o s a = (o, s, a)
ends_answered settings scopes moment on asked left before after (served.Closed why) o s a = inr (o, s, a)
ends_answered settings scopes moment on asked left before after (served.Ended have) o s a = absurd a
ends_answered settings scopes moment on asked left before after served.ReadFault o s a = absurd a
ends_answered settings scopes moment on asked left before after served.WriteFault o s a = (o, s, a)
ends_answered settings scopes moment on asked left before after (served.SourceFault file) o s a = (o, s, a)
ends_answered settings scopes moment on asked left before after (served.TooLong file size) o s a = (o, s, a)
ends_answered settings scopes moment on asked left before after (served.Spent count) o s a = (o, s, a)
ends_answered settings scopes moment on asked left before after served.NoMemory o s a = (o, s, a)

counts_answered : (settings : Databases DbConf) (scopes : Scopes) (moment : ℕ) (asked : Asked) (before after : Side) (by : Served) (count count' : ℕ) → Answers settings scopes moment asked before after by → count' ≡ count → CountsInput by count count'
counts_answered settings scopes moment asked before after served.Replied count count' a e = e
counts_answered settings scopes moment asked before after served.ShutDown count count' a e = e
counts_answered settings scopes moment asked before after (served.Closed why) count count' a e = e
counts_answered settings scopes moment asked before after (served.Ended have) count count' a e = e
counts_answered settings scopes moment asked before after served.ReadFault count count' a e = absurd a
counts_answered settings scopes moment asked before after served.WriteFault count count' a e = e
counts_answered settings scopes moment asked before after (served.SourceFault file) count count' a e = e
counts_answered settings scopes moment asked before after (served.TooLong file size) count count' a e = e
counts_answered settings scopes moment asked before after (served.Spent count'') count count' a e = e
counts_answered settings scopes moment asked before after served.NoMemory count count' a e = e

serves : (settings : Databases DbConf) (scopes : Scopes) (moment : ℕ) (on : Role) (input input' : StreamAt) (before after : Side) (by : Served) (front : List ℕ) → Moves input.bytes input'.bytes front → IsNeeded front
    → CountsInput by input.faults input'.faults → Ends settings scopes moment on (request_of front) input'.bytes before after by → Serves settings scopes moment on input input' before after by
serves settings scopes moment on input input' before after by front moved needed counted ends = record {
  front = front;
  moved = moved;
  needed = needed;
  counted = counted;
  ends = ends;
  complete = completes settings scopes moment on (request_of front) input'.bytes input input' before after by ends counted;
}

-- a connection whose input failed
pub serves_failed : (settings : Databases DbConf) (scopes : Scopes) (moment : ℕ) (on : Role) (input input' : StreamAt) (side_is : Side) → GetsShort input.bytes input'.bytes → Rose input.faults input'.faults
    → Serves settings scopes moment on input input' side_is side_is served.ReadFault
serves_failed settings scopes moment on input input' side_is short rose = serves settings scopes moment on input input' side_is side_is served.ReadFault short.0 short.1 short.2 rose ((length short.0, short.3), refl)

-- a connection whose request was admitted
pub serves_admitted : (settings : Databases DbConf) (scopes : Scopes) (moment : ℕ) (on : Role) (input input' : StreamAt) (before after : Side) (by : Served) (front : List ℕ) (asked : Asked) → asked ≡ request_of front
    → Moves input.bytes input'.bytes front → IsNeeded front → input'.faults ≡ input.faults → closing_of scopes on asked ≡ None → OthersStay asked before.passes after.passes
    → Answers settings scopes moment asked before after by → Serves settings scopes moment on input input' before after by
serves_admitted settings scopes moment on input input' before after by front asked is moved needed calm open_to others answers =
    serves settings scopes moment on input input' before after by front moved needed (counts_answered settings scopes moment asked before after by input.faults input'.faults answers calm)
    (subst (λ (a : Asked). Ends settings scopes moment on a input'.bytes before after by) is (ends_answered settings scopes moment on asked input'.bytes before after by open_to others answers))
