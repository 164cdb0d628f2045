-- The law of reloads: in each run of the machine entries end for good only as ticks and invalidations end them, and those that end to be
-- loaded again are loaded again, or could not be.
use Rattle.std.proofs.Common.{ℕ, List, [], ◌∷◌, Option, refl}
use Rattle.nsc_model.specs.declared.conf.DbConf.{DbConf}
use Rattle.nsc_model.specs.declared.kind.Db.{Db}
use Rattle.nsc_model.specs.declared.record.Record.{Record}
use Rattle.nsc_model.specs.declared.record.Record.TheVariants.{Change}
use Rattle.nsc_model.specs.Content.{Content}
use Rattle.nsc_model.specs.Files.{part_of}
use Rattle.nsc_model.specs.Machine.{Cache, invalidated, lookup, new_cache, room_of, tick, ticked_by}
use Rattle.nsc_laws.specs.Calls.{Event, Invalidation, Lookup, Tick}
use Rattle.nsc_laws.specs.Reloading.{AreSettled, AreStopped, EachReloaded}
use Rattle.nsc_laws.proofs.LoadedAgain.{but_first}
use Rattle.nsc_laws.proofs.MachineLaw.{opening_drives}
use Rattle.nsc_laws.proofs.MachineLawAgain.{Goes, Stays, Waits, goes_invalidated, goes_looked, goes_settled, goes_ticked}
use Rattle.nsc_laws.proofs.MachineLawPasses.{passes_both, turns_both}
use Rattle.nsc_laws.proofs.MachineLawReloads.{Ends, Meets, meets_invalidated, meets_looked, meets_ticked}

settled : (settings : DbConf) (limit : Option ℕ) (cache : Cache) (h : List Record) → Meets limit cache h → Goes (room_of settings) [] cache h → AreSettled settings limit h
settled settings limit cache h m g = record { ended = m.ended; again = goes_settled (room_of settings) cache h g }

stops : (settings : DbConf) (limit : Option ℕ) (cache : Cache) (h : List Record) → Ends limit cache h → Stays (room_of settings) cache h → AreStopped settings limit cache h
stops settings limit cache h ended again = record { ended = ended; again = again }

each_reloaded : (db : Db) (settings : DbConf) (limit : Option ℕ) (events : List Event) (ticked : ℕ) (cache : Cache) (h : List Record) → Meets limit cache h → Goes (room_of settings) [] cache h → EachReloaded db settings limit events ticked cache h
each_reloaded db settings limit [] ticked cache h m g = settled settings limit cache h m g
each_reloaded db settings limit (Lookup content now request ∷ events) ticked cache h m g = (
  settled settings limit cache h m g,
  turns_both (Meets limit) (Goes (room_of settings) []) (EachReloaded db settings limit events ticked) (Ends limit) (Stays (room_of settings)) (AreStopped settings limit) h (lookup settings now (part_of db content) request cache)
      (λ c l a b. each_reloaded db settings limit events ticked c l a b) (stops settings limit) (meets_looked limit settings now (part_of db content) request cache h m) (goes_looked settings now (part_of db content) request cache h g),
)
each_reloaded db settings limit (Tick content now ∷ events) ticked cache h m g = (
  settled settings limit cache h m g,
  passes_both (Meets limit) (Goes (room_of settings) []) (λ after. EachReloaded db settings limit events (ticked_by settings ticked after) after) (Ends limit) (Stays (room_of settings)) (AreStopped settings limit) h (tick settings limit now (part_of db content) ticked cache)
      (λ c l a b. each_reloaded db settings limit events (ticked_by settings ticked c) c l a b) (stops settings limit) (meets_ticked limit settings now (part_of db content) ticked cache h m) (goes_ticked limit settings now (part_of db content) ticked cache h g),
)
each_reloaded db settings limit (Invalidation ∷ events) ticked cache h m g = (
  settled settings limit cache h m g,
  passes_both (Meets limit) (Goes (room_of settings) []) (EachReloaded db settings limit events ticked) (Ends limit) (Stays (room_of settings)) (AreStopped settings limit) h (invalidated cache)
      (λ c l a b. each_reloaded db settings limit events ticked c l a b) (stops settings limit) (meets_invalidated limit cache h m) (goes_invalidated (room_of settings) cache h g),
)

pub reloads_law : (db : Db) (settings : DbConf) (limit : Option ℕ) (files : Content) (events : List Event) → EachReloaded db settings limit events 0 (new_cache (part_of db files)) (Change 0 (part_of db files) ∷ [])
reloads_law db settings limit files events =
    each_reloaded db settings limit events 0 (new_cache (part_of db files)) (Change 0 (part_of db files) ∷ []) (record { ended = record { dropped = tt; invalidated = tt }; entries_are = tt })
    (record { tells = (opening_drives db 0 files).tells; used_is = refl; again = but_first (room_of settings) (Waits []) (part_of db files) })
