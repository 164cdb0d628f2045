-- Lookups that the thread that accepts answers in place, and how they are counted.
use Rattle.std.specs.Prelude.{ℕ, ◌+◌, Bool, if◌then◌else◌, List, Option, min}
use Rattle.nsc_outside.specs.Stream.{IsAhead}
use Rattle.nsc_model.specs.declared.databases.Databases.{Databases}
use Rattle.nsc_model.specs.Databases.{database_in, with_database}
use Rattle.nsc_model.specs.Machine.{last_count, next_count}
use Rattle.nsc_server.specs.declared.in_place.ServedInPlace.{ServedInPlace}
use Rattle.nsc_server.specs.declared.in_place.ServedInPlace.TheVariants.{Found, Not, Broken}
use Rattle.nsc_server.specs.declared.scope.Scopes.{Scopes}
use Rattle.nsc_server.specs.InPlace.{ServesInPlace}
use Rattle.nsc_server.specs.Outcomes.{Side}
use Rattle.nsc_daemon.specs.declared.fast_path.Hits.{Hits}

-- the hits that the databases were not told of yet
pub record FastPath : Type 0 where
  pub hits : Databases Hits

-- none
abbrev pub no_hits : Hits
no_hits = record { found = 0; not_found = 0 }

abbrev pub none_of_all : Databases Hits
none_of_all = record { passwd = no_hits; group = no_hits; hosts = no_hits; services = no_hits }

-- one more, of a not-found or a found reply
abbrev pub one_more : Bool → Hits → Hits
one_more not_found hits = if not_found then record hits { not_found = next_count hits.not_found } else record hits { found = next_count hits.found }

-- those of two threads; each number stays at its end
abbrev pub sum_of : Hits → Hits → Hits
sum_of a b = record { found = min (a.found + b.found) last_count; not_found = min (a.not_found + b.not_found) last_count }

abbrev pub sum_of_all : Databases Hits → Databases Hits → Databases Hits
sum_of_all a b = record { passwd = sum_of a.passwd b.passwd; group = sum_of a.group b.group; hosts = sum_of a.hosts b.hosts; services = sum_of a.services b.services }

-- one more of its database, if a lookup was answered in place
abbrev pub noted : ServedInPlace → Databases Hits → Databases Hits
noted (Found which not_found) hits = with_database hits which (one_more not_found (database_in hits which))
noted (Not stale) hits = hits
noted Broken hits = hits

-- bytes at the front of what an input has left were looked up in place, and this came of it
abbrev pub ServesAhead : Scopes → Option (List ℕ) → Side → Side → ServedInPlace → Type 0
ServesAhead scopes left before after by = (bytes : List ℕ) × IsAhead left bytes × ServesInPlace scopes bytes before after by
