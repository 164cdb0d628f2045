-- What lookups of a database come to.
use Rattle.std.specs.Prelude.{◌≡◌, ◌⊎◌, ℕ, List, true, false, IfSome}
use Rattle.nsc_model.specs.declared.answer.Request.{Request}
use Rattle.nsc_model.specs.declared.conf.DbConf.{DbConf}
use Rattle.nsc_model.specs.declared.kind.Db.{Db}
use Rattle.nsc_model.specs.declared.record.Record.{Record}
use Rattle.nsc_model.specs.declared.store.Given.{Given}
use Rattle.nsc_model.specs.declared.store.Given.TheVariants as given
use Rattle.nsc_model.specs.declared.store.Why.TheVariants as why
use Rattle.nsc_model.specs.History.{NoneLiveOf, invalidations}
use Rattle.nsc_model.specs.Stores.{IsHit, LoadedLastCycle, PassAt}
use Rattle.nsc_sourcebook.specs.Book.{Polled}
use Rattle.nsc_writer.specs.declared.loaded.Inserted.{Inserted}
use Rattle.nsc_writer.specs.declared.loaded.Inserted.TheVariants as inserted
use Rattle.nsc_writer.specs.Loaded.{Loaded}
use Rattle.nsc_turns.specs.declared.answering.Answering.{Answering}
use Rattle.nsc_turns.specs.declared.entries.HitOrMiss.{HitOrMiss}
use Rattle.nsc_turns.specs.declared.entries.HitOrMiss.TheVariants as looked
use Rattle.nsc_turns.specs.Loads.{beside_of, loaded_of}
use Rattle.nsc_database.specs.declared.base.Insertions.{Insertions}
use Rattle.nsc_database.specs.Holds.{IsKept}
use Rattle.nsc_database.specs.Rests.{IsLoadedOf}

-- a look for a live entry of the request, where the database is cached; where it is not, none is found, and the count of invalidations that is told is 0
abbrev pub IsFoundIfCached : DbConf → HitOrMiss → List Record → Request → List ℕ → Type 0
IsFoundIfCached settings (looked.Hit hit) after request reply = (settings.enabled ≡ true) × IsHit after request reply hit.number
IsFoundIfCached settings (looked.Missed epoch) after request reply =
    ((settings.enabled ≡ false) × (epoch ≡ 0)) ⊎ ((epoch ≡ invalidations after) × NoneLiveOf after request)

-- what answers over a polled content have in common, that are made at this moment
abbrev pub answering_over : DbConf → Polled → ℕ → Answering
answering_over settings polled now = record { settings = settings; stamp = polled.stamp; moment = now }

-- what a lookup inserts is made over a polled content: its answer, and what goes beside that; both are of the database
pub record AreMade (which : Db) (settings : DbConf) (polled : Polled) (now : ℕ) (request : Request) (made : Insertions) : Type 0 where
  pub loaded : made.loaded ≡ loaded_of (answering_over settings polled now) polled.content request 0
  pub own : IsLoadedOf which made.loaded
  pub beside : made.beside ≡ beside_of (answering_over settings polled now) polled.content request
  pub beside_own : IfSome made.beside (IsLoadedOf which)

-- what a lookup gives after its insertion, whose reply has these bytes
abbrev pub given_by : Inserted → List ℕ → Given
given_by (inserted.Done number) bytes = given.Loaded bytes number
given_by (inserted.TooLarge size) bytes = given.Fresh bytes (why.TooLarge size)
given_by (inserted.Discarded noted epoch) bytes = given.Fresh bytes (why.Discarded noted epoch)
given_by (inserted.Present number) bytes = given.Fresh bytes (why.Present number)
given_by (inserted.Spent count) bytes = given.Fresh bytes (why.Spent count)
given_by (inserted.Full need free) bytes = given.Fresh bytes (why.Full need free)

-- an insertion was tried, and once more where the table could become large enough, which has `words` words then; there may be no more
-- compactions; and the lookup gives this
pub record IsTried (settings : DbConf) (words : ℕ) (last_cycle : Type 0) (loaded : Loaded) (seen after : List Record) (g : Given) : Type 0 where
  pub said : Inserted
  pub inserted : IsKept settings words last_cycle said loaded seen after
  pub gives : g ≡ given_by said loaded.answer.bytes

-- between two moments of a pass
abbrev pub IsTriedAt : DbConf → PassAt → PassAt → Loaded → Given → Type 0
IsTriedAt settings before after loaded g = IsTried settings after.words (LoadedLastCycle before after) loaded before.seen after.seen g
