-- A hit whose reply was offered to the output.
use Rattle.std.proofs.Common.{◌≡◌, ◌∙◌, ℕ, ◌+◌, ◌%◌, Bool, List, Option, None, sym, ap, subst, arith}
use Rattle.nsc_model.specs.declared.kind.Db.{Db}
use Rattle.nsc_model.specs.declared.kind.Db.TheVariants as db
use Rattle.nsc_model.specs.declared.databases.Databases.{Databases}
use Rattle.nsc_model.specs.Databases.{database_in}
use Rattle.nsc_model.specs.Stores.{PassAt}
use Rattle.nsc_server.specs.declared.scope.Scopes.{Scopes}
use Rattle.nsc_server.specs.declared.in_place.ServedInPlace.{ServedInPlace}
use Rattle.nsc_server.specs.declared.in_place.ServedInPlace.TheVariants.{Found, Not, Broken}
use Rattle.nsc_server.specs.InPlace.{IsHit, IsStale, ServesInPlace, TakesReply, TellsStale}
use Rattle.nsc_server.specs.Outcomes.{Side}
use Rattle.nsc_server.specs.Passes.{OthersThan}

-- a pass that is as before began no search
idle : (before after : PassAt) → after ≡ before → IsStale before after → ⊥
idle before after same stale = (let searches = ap (λ (p : PassAt). p.searches) same in let more = stale.0 in omega (arith, searches, more))

-- one that loaded an even CYCLE first is not stale
fresh : (before after : PassAt) → after.first % 2 ≡ 0 → IsStale before after → ⊥
fresh before after even stale = (let odd = stale.1 in omega (arith, even, odd))

pub none_searched : (before after : Databases PassAt) → after ≡ before → TellsStale before after None
none_searched before after same which = idle (database_in before which) (database_in after which) (ap (λ (all : Databases PassAt). database_in all which) same)

-- one pass searched, and loaded an even CYCLE first
pub none_stale : (which : Db) (before after : Databases PassAt) → OthersThan which before after → (database_in after which).first % 2 ≡ 0 → TellsStale before after None
none_stale db.Passwd before after others even db.Passwd = fresh before.passwd after.passwd even
none_stale db.Passwd before after others even db.Group = idle before.group after.group (others db.Group (λ e. cc))
none_stale db.Passwd before after others even db.Hosts = idle before.hosts after.hosts (others db.Hosts (λ e. cc))
none_stale db.Passwd before after others even db.Services = idle before.services after.services (others db.Services (λ e. cc))
none_stale db.Group before after others even db.Passwd = idle before.passwd after.passwd (others db.Passwd (λ e. cc))
none_stale db.Group before after others even db.Group = fresh before.group after.group even
none_stale db.Group before after others even db.Hosts = idle before.hosts after.hosts (others db.Hosts (λ e. cc))
none_stale db.Group before after others even db.Services = idle before.services after.services (others db.Services (λ e. cc))
none_stale db.Hosts before after others even db.Passwd = idle before.passwd after.passwd (others db.Passwd (λ e. cc))
none_stale db.Hosts before after others even db.Group = idle before.group after.group (others db.Group (λ e. cc))
none_stale db.Hosts before after others even db.Hosts = fresh before.hosts after.hosts even
none_stale db.Hosts before after others even db.Services = idle before.services after.services (others db.Services (λ e. cc))
none_stale db.Services before after others even db.Passwd = idle before.passwd after.passwd (others db.Passwd (λ e. cc))
none_stale db.Services before after others even db.Group = idle before.group after.group (others db.Group (λ e. cc))
none_stale db.Services before after others even db.Hosts = idle before.hosts after.hosts (others db.Hosts (λ e. cc))
none_stale db.Services before after others even db.Services = fresh before.services after.services even

pub offered : (scopes : Scopes) (bytes : List ℕ) (before after : Side) (which : Db) (not_found : Bool) (reply : List ℕ) (by : ServedInPlace) → OthersThan which before.passes after.passes → IsHit scopes bytes before.passes after.passes which not_found reply → TakesReply before.output after.output reply which not_found by
    → ServesInPlace scopes bytes before after by
offered scopes bytes before after which not_found reply (Found w n) others hit took =
    (reply, subst (λ (x : Db × Bool). IsHit scopes bytes before.passes after.passes x.0 x.1 reply) (λ i. (sym took.0 i, sym took.1 i)) hit, took.2)
offered scopes bytes before after which not_found reply (Not stale) others hit took =
    (took.0, subst (TellsStale before.passes after.passes) (sym took.1) (none_stale which before.passes after.passes others hit.found.answers.1))
offered scopes bytes before after which not_found reply Broken others hit took = (which, not_found, reply, hit, took)
