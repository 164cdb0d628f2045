-- What the machine's events come to, as relations between the caches before and after.
use Rattle.std.specs.Prelude.{◌≡◌, ℕ, List, Result, Ok, Err}
use Rattle.nsc_model.specs.Machine.{Cache, Passed, Stopped, Turn}

-- a lookup gives this cache and this reply
abbrev pub TurnsTo : Result Turn Stopped → Cache → List ℕ → Type 0
TurnsTo (Ok turn) cache reply = (turn.cache ≡ cache) × (turn.reply ≡ reply)
TurnsTo (Err stop) cache reply = ⊥

-- an event gives this cache
abbrev pub ComesTo : Result Passed Stopped → Cache → Type 0
ComesTo (Ok passed) cache = passed.cache ≡ cache
ComesTo (Err stop) cache = ⊥

-- an event stops with this cache at this count
abbrev pub StopsAt : {A : Type 0} → Result A Stopped → Cache → ℕ → Type 0
StopsAt (Ok done) cache count = ⊥
StopsAt (Err stop) cache count = (stop.cache ≡ cache) × (stop.count ≡ count)
