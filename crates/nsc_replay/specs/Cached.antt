-- A database of a replay.
use Rattle.std.specs.Prelude.{◌≡◌, ◌⊎◌, ℕ, List, Option, Result}
use Rattle.nsc_model.specs.declared.answer.Request.{Request}
use Rattle.nsc_model.specs.declared.conf.DbConf.{DbConf}
use Rattle.nsc_model.specs.declared.fault.CacheFault.{CacheFault}
use Rattle.nsc_model.specs.declared.fault.CacheFault.TheVariants as faults
use Rattle.nsc_model.specs.Content.{Content}
use Rattle.nsc_model.specs.History.{PolledSince}
use Rattle.nsc_model.specs.Machine.{Passed, Stopped, Turn, lookup, polled}
use Rattle.nsc_turns.specs.Turns.{Completes, CompletesWith, Stops}
use Rattle.nsc_writer.specs.declared.loaded.Stamp.{Stamp}
use Rattle.nsc_writer.specs.Writer.{Writer}

-- the files that it reads, as they are; its settings; its writer; and the version that its last tick found
pub record Cached : Type 0 where
  pub files : Content
  pub settings : DbConf
  pub reloads : Option ℕ
  pub writer : Writer
  pub ticked : ℕ

-- a stamp is of these files, which were polled as the newest version since the last invalidation
pub record IsFresh (files : Content) (stamp : Stamp) (w : Writer) : Type 0 where
  pub version : stamp.version ≡ w.cache.newest_version
  pub epoch : stamp.epoch ≡ w.cache.epoch
  pub sources : w.cache.sources ≡ files
  pub polled : PolledSince w.seen stamp.version stamp.epoch

-- a part of an event gave up: memory was short, and the writer is as before; or the machine stops there
abbrev pub GivesUp : Result Passed Stopped → Writer → Writer → CacheFault → Type 0
GivesUp part before after faults.NoMemory = after ≡ before
GivesUp part before after (faults.Spent count) = Stops part count before after

-- the writer is as before, or a poll was made and nothing else
abbrev pub IsPolledAtMost : Content → Writer → Writer → Type 0
IsPolledAtMost files before after = (after ≡ before) ⊎ Completes (polled files before.cache) before after

-- an event gave up: memory was short, and at most a poll was made; or the machine stops there
abbrev pub Faults : {A : Type 0} → Result A Stopped → Content → Writer → Writer → CacheFault → Type 0
Faults event files before after faults.NoMemory = IsPolledAtMost files before after
Faults event files before after (faults.Spent count) = Stops event count before after

-- an event that takes no memory gave up: the machine stops there
abbrev pub OnlyStops : Result Passed Stopped → Writer → Writer → CacheFault → Type 0
OnlyStops event before after faults.NoMemory = ⊥
OnlyStops event before after (faults.Spent count) = Stops event count before after

-- the event of a lookup at this moment
abbrev pub looked_up : Cached → ℕ → Request → Result Turn Stopped
looked_up c now request = lookup c.settings now c.files request c.writer.cache

-- a lookup, whatever the moment, has this reply and leaves this writer
abbrev pub LooksUp : Request → Cached → Writer → List ℕ → Type 0
LooksUp request before after reply = (now : ℕ) → CompletesWith (looked_up before now request) before.writer after reply

-- the version that a tick keeps which gave up: if memory was short, that of the last tick
abbrev pub ticked_at : CacheFault → ℕ → ℕ → ℕ
ticked_at faults.NoMemory ticked kept = ticked
ticked_at (faults.Spent count) ticked kept = kept
