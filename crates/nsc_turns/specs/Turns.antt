-- What turns make of a writer: what the machine makes of its cache, with the records that go to the history.
use Rattle.std.specs.Prelude.{◌≡◌, ℕ, List, ◌++◌, Option, Some, None, Result, Ok, Err}
use Rattle.nsc_model.specs.declared.answer.Request.{Request}
use Rattle.nsc_model.specs.Machine.{Kept, Passed, Stopped, Turn, tried_by, used_now}
use Rattle.nsc_shelf.specs.Shelf.{GivesHit}
use Rattle.nsc_writer.specs.Loaded.{Loaded, kept_of}
use Rattle.nsc_shelf.specs.Uses.{counted}
use Rattle.nsc_writer.specs.declared.loaded.Inserted.{Inserted}
use Rattle.nsc_writer.specs.declared.loaded.Inserted.TheVariants as inserted
use Rattle.nsc_writer.specs.Writer.{Inserts, IsRefused, Writer, passed_by, refusal_of}
use Rattle.nsc_turns.specs.declared.entries.HitOrMiss.{HitOrMiss}
use Rattle.nsc_turns.specs.declared.entries.HitOrMiss.TheVariants as looked

-- an event completes: the machine's cache, and its records in the history
abbrev pub Completes : Result Passed Stopped → Writer → Writer → Type 0
Completes (Ok passed) before after = after ≡ passed_by passed before
Completes (Err stop) before after = ⊥

-- an event stops, at this count
abbrev pub Stops : {A : Type 0} → Result A Stopped → ℕ → Writer → Writer → Type 0
Stops (Ok done) count before after = ⊥
Stops (Err stop) count before after = (count ≡ stop.count) × (after ≡ passed_by (record { cache = stop.cache; adds = stop.adds }) before)

-- a lookup completes with this reply; hits and misses may have been counted
abbrev pub CompletesWith : Result Turn Stopped → Writer → Writer → List ℕ → Type 0
CompletesWith (Ok turn) before after reply =
    (after ≡ record before { cache = turn.cache; seen = turn.adds ++ before.seen; hits = after.hits; misses = after.misses }) × (turn.reply ≡ reply)
CompletesWith (Err stop) before after reply = ⊥

-- a look for the live entry that answers a request: its reply, and its count of reloads begins anew; or the number of invalidations
abbrev pub Looks : Option Kept → Request → HitOrMiss → Writer → Writer → List ℕ → Type 0
Looks found request (looked.Hit hit) before after reply =
    GivesHit found (Some hit) reply ×
    (after ≡ record before { cache = record before.cache { entries = used_now request before.cache.entries }; hits = counted hit.not_found before.hits })
Looks found request (looked.Missed epoch) before after reply = GivesHit found None reply × (epoch ≡ before.cache.epoch) × (after ≡ before)

-- a miss is counted
abbrev pub missed : Loaded → Writer → Writer
missed l w = record w { misses = counted l.answer.not_found w.misses }

-- an entry was inserted, or refused; if it was inserted, the insertion of what goes beside it was tried, and else nothing changed
abbrev pub InsertsBeside : Inserted → Option Loaded → Writer → Writer → Type 0
InsertsBeside (inserted.Done number) (Some l) before after = (said : Inserted) × Inserts said l before after × IsRefused said l before
InsertsBeside _ _ before after = after ≡ before

-- the insertion of this was tried
abbrev pub tried_on : Loaded → Writer → Writer
tried_on l w = passed_by (tried_by (refusal_of w l) (kept_of l w.cache.inserted) w.cache) w
