-- The machine over whole runs: how the entries of its history end, and that those which end to be loaded again are loaded.
use Rattle.std.specs.Prelude.{ℕ, ◌≤◌, ◌⊎◌, List, [], ◌∷◌, ◌++◌, Option, Result, Ok, Err}
use Rattle.nsc_model.specs.declared.kind.Db.{Db}
use Rattle.nsc_model.specs.declared.record.Record.{Record}
use Rattle.nsc_model.specs.Files.{part_of}
use Rattle.nsc_model.specs.declared.conf.DbConf.{DbConf}
use Rattle.nsc_model.specs.Machine.{Cache, Passed, Stopped, Turn, last_count, room_of, lookup, tick, ticked_by, invalidated}
use Rattle.nsc_model.specs.Reloads.{Reloaded, none_brought}
use Rattle.nsc_model.specs.Stores.{AreLoadedAgain}
use Rattle.nsc_laws.specs.Calls.{Event, Lookup, Tick, Invalidation}

-- between two events: entries ended for good only as ticks and invalidations end them, and each one that ended to be loaded again was
-- loaded again, or could not be
pub record AreSettled (settings : DbConf) (limit : Option ℕ) (history : List Record) : Type 0 where
  pub ended : Reloaded none_brought limit history
  pub again : AreLoadedAgain (room_of settings) history

-- so also where an event stopped, unless no more compactions can be counted: an event that stops there may have ended entries, and loads
-- none again
pub record AreStopped (settings : DbConf) (limit : Option ℕ) (cache : Cache) (history : List Record) : Type 0 where
  pub ended : Reloaded none_brought limit history
  pub again : AreLoadedAgain (room_of settings) history ⊎ (last_count ≤ cache.cycle)

-- an event passes, and the first holds of what comes after it; or it stops, and the second holds of what it leaves
abbrev pub PassesThen : (Cache → List Record → Type 0) → (Cache → List Record → Type 0) → List Record → Result Passed Stopped → Type 0
PassesThen others stops history (Ok passed) = others passed.cache (passed.adds ++ history)
PassesThen others stops history (Err stop) = stops stop.cache (stop.adds ++ history)

abbrev pub TurnsThen : (Cache → List Record → Type 0) → (Cache → List Record → Type 0) → List Record → Result Turn Stopped → Type 0
TurnsThen others stops history (Ok turn) = others turn.cache (turn.adds ++ history)
TurnsThen others stops history (Err stop) = stops stop.cache (stop.adds ++ history)

-- so in every run of events; it ends where an event stops. The number is the version that the last tick found
abbrev pub EachReloaded : Db → DbConf → Option ℕ → List Event → ℕ → Cache → List Record → Type 0
EachReloaded db settings limit [] ticked cache history = AreSettled settings limit history
EachReloaded db settings limit (Lookup content now request ∷ events) ticked cache history =
    AreSettled settings limit history × TurnsThen (EachReloaded db settings limit events ticked) (AreStopped settings limit) history (lookup settings now (part_of db content) request cache)
EachReloaded db settings limit (Tick content now ∷ events) ticked cache history =
    AreSettled settings limit history × PassesThen (λ after. EachReloaded db settings limit events (ticked_by settings ticked after) after) (AreStopped settings limit) history (tick settings limit now (part_of db content) ticked cache)
EachReloaded db settings limit (Invalidation ∷ events) ticked cache history =
    AreSettled settings limit history × PassesThen (EachReloaded db settings limit events ticked) (AreStopped settings limit) history (invalidated cache)
