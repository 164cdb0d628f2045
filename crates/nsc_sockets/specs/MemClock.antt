-- A clock in memory.
use Rattle.std.specs.Prelude.{ℕ, ◌+◌, ◌-◌, ◌^◌, min}

-- the last moment that a clock may tell
abbrev pub last_moment : ℕ
last_moment = 2 ^ 62 - 1

-- the moment that it told last, the one that it tells next, and how far each lies behind the one before it
pub record MemClock : Type 0 where
  pub latest : ℕ
  pub next : ℕ
  pub step : ℕ

-- nothing was told so far
abbrev pub clock_from : ℕ → ℕ → MemClock
clock_from start step = record { latest = 0; next = min start last_moment; step = step }

-- its next moment was told
abbrev pub after_telling : MemClock → MemClock
after_telling clock = record clock { latest = clock.next; next = min (clock.next + clock.step) last_moment }
