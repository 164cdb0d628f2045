-- What a cache is where an event gave up.
use Rattle.std.specs.Prelude.{◌≡◌, Result, ◌⊎◌}
use Rattle.nsc_model.specs.declared.fault.CacheFault.{CacheFault}
use Rattle.nsc_model.specs.declared.fault.CacheFault.TheVariants.{NoMemory, Spent}
use Rattle.nsc_model.specs.Content.{Content}
use Rattle.nsc_model.specs.Machine.{Cache, Stopped, polled}
use Rattle.nsc_model.specs.Events.{ComesTo, StopsAt}

-- the cache is as before, or a poll was made and nothing else
abbrev pub IsPolledAtMost : Content → Cache → Cache → Type 0
IsPolledAtMost files before after = (after ≡ before) ⊎ ComesTo (polled files before) after

-- an event gave up: memory was short, and at most a poll was made; or the machine stops there
abbrev pub FaultsBy : {A : Type 0} → Result A Stopped → Content → Cache → Cache → CacheFault → Type 0
FaultsBy event files before after NoMemory = IsPolledAtMost files before after
FaultsBy event files before after (Spent count) = StopsAt event after count

-- an event that takes no memory gave up: the machine stops there
abbrev pub StopsBy : {A : Type 0} → Result A Stopped → Cache → CacheFault → Type 0
StopsBy event after NoMemory = ⊥
StopsBy event after (Spent count) = StopsAt event after count

-- a part of an event gave up: memory was short, and nothing changed; or the machine stops there
abbrev pub GivesUpBy : {A : Type 0} → Result A Stopped → Cache → Cache → CacheFault → Type 0
GivesUpBy event before after NoMemory = after ≡ before
GivesUpBy event before after (Spent count) = StopsAt event after count
