-- Of four passes, one that was called with, and the others as they were.
use Rattle.std.proofs.Common.{◌≡◌, [], ◌∷◌, Result, Ok, Err, IfErr, refl, sym, ap, ◌∙◌, subst, rules}
use Rattle.nsc_model.specs.declared.answer.Request.{Request}
use Rattle.nsc_model.specs.declared.databases.Databases.{Databases}
use Rattle.nsc_model.specs.declared.kind.Db.{Db}
use Rattle.nsc_model.specs.declared.kind.Db.TheVariants as db
use Rattle.nsc_model.specs.declared.row.Reply.{Reply}
use Rattle.nsc_model.specs.declared.store.LookupFault.{LookupFault}
use Rattle.nsc_model.specs.declared.store.LookupFault.TheVariants as fault
use Rattle.nsc_model.specs.declared.store.Store as store
use Rattle.nsc_model.specs.Databases.{database_in, with_database}
use Rattle.nsc_model.specs.Kinds.{database_of}
use Rattle.nsc_model.specs.Stores.{GivesUpAt, StaysCalm}
use Rattle.nsc_client.specs.declared.link.LinkFault.{LinkFault}
use Rattle.nsc_client.specs.Gate.{AreCalm, GaveUp, IsCause, IsRefusal}
use Rattle.nsc_client.specs.Replying.{IsCauseAt, IsRefusedAt}

-- what holds of the one, and of the others as they were, holds of each
with_each : {P : Type 0} (X : Db → P → Type 0) (before : Databases P) (which : Db) (one : P) → X which one → ((other : Db) → X other (database_in before other))
    → (other : Db) → X other (database_in (with_database before which one) other)
with_each X before db.Passwd one own others db.Passwd = own
with_each X before db.Passwd one own others db.Group = others db.Group
with_each X before db.Passwd one own others db.Hosts = others db.Hosts
with_each X before db.Passwd one own others db.Services = others db.Services
with_each X before db.Group one own others db.Passwd = others db.Passwd
with_each X before db.Group one own others db.Group = own
with_each X before db.Group one own others db.Hosts = others db.Hosts
with_each X before db.Group one own others db.Services = others db.Services
with_each X before db.Hosts one own others db.Passwd = others db.Passwd
with_each X before db.Hosts one own others db.Group = others db.Group
with_each X before db.Hosts one own others db.Hosts = own
with_each X before db.Hosts one own others db.Services = others db.Services
with_each X before db.Services one own others db.Passwd = others db.Passwd
with_each X before db.Services one own others db.Group = others db.Group
with_each X before db.Services one own others db.Hosts = others db.Hosts
with_each X before db.Services one own others db.Services = own

pub the_one : {P : Type 0} (before : Databases P) (which : Db) (one : P) → one ≡ database_in (with_database before which one) which
the_one before db.Passwd one = refl
the_one before db.Group one = refl
the_one before db.Hosts one = refl
the_one before db.Services one = refl

pub calm_with : {S P : Type 0} (g : store.Ghosts S P) (before : Databases P) (which : Db) (one : P)
    → StaysCalm (g.at (database_in before which)) (g.at one) → AreCalm g before (with_database before which one)
calm_with g before which one stay =
    with_each (λ other pass. StaysCalm (g.at (database_in before other)) (g.at pass)) before which one stay (λ other. (refl, refl))

gave_up_with : {S P : Type 0} (g : store.Ghosts S P) (stores : Databases S) (before : Databases P) (one : P) (request : Request) (cause : LookupFault)
    → (let which = database_of request.kind in let pass = database_in before which in
    GivesUpAt (g.settings (database_in stores which)) (g.at pass) (g.at one) request cause)
    → GaveUp g stores before (with_database before (database_of request.kind) one) request cause
gave_up_with g stores before one request cause up =
    let which = database_of request.kind in
    let pass = database_in before which in
    subst (λ (later : _). GivesUpAt (g.settings (database_in stores which)) (g.at pass) (g.at later) request cause) (the_one before which one) up

cause_with : {S P : Type 0} (g : store.Ghosts S P) (stores : Databases S) (before : Databases P) (one : P) (request : Request) (cause : LookupFault)
    → IsCauseAt g (database_in stores (database_of request.kind)) (database_in before (database_of request.kind)) one request cause
    → IsCause g stores before (with_database before (database_of request.kind) one) (request ∷ []) cause
cause_with g stores before one request fault.NoMemory is = calm_with g before (database_of request.kind) one is
cause_with g stores before one request (fault.Spent count) is = (request, search rules, gave_up_with g stores before one request (fault.Spent count) is)
cause_with g stores before one request (fault.SourceFault file) is = (request, search rules, gave_up_with g stores before one request (fault.SourceFault file) is)
cause_with g stores before one request (fault.TooLong file size) is = (request, search rules, gave_up_with g stores before one request (fault.TooLong file size) is)

refused_with : {S P : Type 0} (g : store.Ghosts S P) (stores : Databases S) (before : Databases P) (one : P) (request : Request) (read : Result Reply LinkFault)
    → IfErr read (IsRefusedAt g (database_in stores (database_of request.kind)) (database_in before (database_of request.kind)) one request)
    → IfErr read (IsRefusal g stores before (with_database before (database_of request.kind) one) (request ∷ []))
refused_with g stores before one request (Ok reply) is = tt
refused_with g stores before one request (Err refused) is = (is.0, is.1, cause_with g stores before one request is.0 is.2)

-- the same, by what the store and the pass of the database are
pub refused_of : {S P : Type 0} (g : store.Ghosts S P) (stores : Databases S) (before : Databases P) (which : Db) (base : S) (pass one : P) (request : Request) (read : Result Reply LinkFault)
    → which ≡ database_of request.kind → base ≡ database_in stores which → pass ≡ database_in before which → IfErr read (IsRefusedAt g base pass one request)
    → IfErr read (IsRefusal g stores before (with_database before which one) (request ∷ []))
refused_of g stores before which base pass one request read of base_is pass_is refused =
    let its_store = subst (λ (b : _). IfErr read (IsRefusedAt g b pass one request)) (base_is ∙ ap (λ (w : Db). database_in stores w) of) refused in
    let its_pass = subst (λ (p : _). IfErr read (IsRefusedAt g (database_in stores (database_of request.kind)) p one request)) (pass_is ∙ ap (λ (w : Db). database_in before w) of) its_store in
    subst (λ (w : Db). IfErr read (IsRefusal g stores before (with_database before w one) (request ∷ []))) (sym of) (refused_with g stores before one request read its_pass)
