-- What ticks come to, after their poll.
use Rattle.std.specs.Bool.{OnFalse, OnTrue}
use Rattle.std.specs.Prelude.{◌≡◌, ℕ, Bool, true, false, List, [], ◌∷◌, filter, map, Option, Some, None, Result, Ok, Err}
use Rattle.nsc_model.specs.declared.fault.CacheFault.{CacheFault}
use Rattle.nsc_model.specs.declared.fault.CacheFault.TheVariants as fault
use Rattle.nsc_model.specs.Machine.{Cache, Passed, Stopped, compacted, due_of, invalidated, unchanged}
use Rattle.nsc_laws.specs.Calls.{Tells}
use Rattle.nsc_pruner.specs.Due.{Due, due_from, marked_by, pruned_by}
use Rattle.nsc_writer.specs.declared.loaded.Inserted.{Inserted}
use Rattle.nsc_writer.specs.Loaded.{Loaded}
use Rattle.nsc_writer.specs.Writer.{Inserts, IsRefused, Writer}
use Rattle.nsc_turns.specs.declared.ticks.Checked.{Checked}
use Rattle.nsc_turns.specs.declared.ticks.Checked.TheVariants as checked
use Rattle.nsc_turns.specs.Turns.{Completes, Stops}

-- where the newest version is outdated every entry ends, and else it is said which are due
abbrev pub Checks : Bool → Option ℕ → ℕ → Writer → Writer → Result Checked CacheFault → Type 0
Checks outdated limit now before after (Ok checked.Emptied) = (outdated ≡ true) × Completes (invalidated before.cache) before after
Checks outdated limit now before after (Ok (checked.Listed due)) =
    (outdated ≡ false) × (due.items ≡ map (due_from limit) (due_of now before.cache.entries)) × (after ≡ before)
Checks outdated limit now before after (Err fault.NoMemory) = (outdated ≡ false) × (after ≡ before)
Checks outdated limit now before after (Err (fault.Spent count)) = (outdated ≡ true) × Stops (invalidated before.cache) count before after

-- those of them that were ended
abbrev pub ended_of : List Due → List Due
ended_of due = filter (λ d. d.ended) due

-- a compaction where any of these ended
abbrev pub compacted_for : List Due → Cache → Result Passed Stopped
compacted_for [] cache = Ok (unchanged cache)
compacted_for (d ∷ ended) cache = compacted cache

-- the event of those that are due: they end, and there is a compaction where any of them did
abbrev pub swept_by : ℕ → List Due → Writer → Result Passed Stopped
swept_by now due w = compacted_for (ended_of (marked_by now due w)) (pruned_by now due w).cache

-- one of them that was ended is loaded again, if it is to be; the writer's history tells its cache
abbrev pub ReloadsOne : Due → Option Loaded → Writer → Writer → Type 0
ReloadsOne d None before after = after ≡ before
ReloadsOne d (Some l) before after =
    OnTrue d.ended ((said : Inserted) × Inserts said l before after × IsRefused said l before × Tells before.seen before.cache) ×
    OnFalse d.ended (after ≡ before)

-- and so each of them, one after the other
abbrev pub Reloads : List Due → List (Option Loaded) → Writer → Writer → Type 0
Reloads [] loads before after = after ≡ before
Reloads (d ∷ due) [] before after = after ≡ before
Reloads (d ∷ due) (load ∷ loads) before after = (mid : Writer) × ReloadsOne d load before mid × Reloads due loads mid after

-- those that are due end, there is a compaction where any did, and what was made for those that ended is inserted
abbrev pub Renews : ℕ → List Due → List (Option Loaded) → Writer → Writer → Type 0
Renews now due loads before after =
    (swept : Writer) × Completes (swept_by now due before) (pruned_by now due before) swept × Reloads (marked_by now due before) loads swept after
