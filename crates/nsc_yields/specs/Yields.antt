-- When a thread may yield the processor: not for a while after late yields took too much of its time. Moments and times are in
-- nanoseconds.
use Rattle.std.specs.Prelude.{ℕ, ◌+◌, ◌-◌, ◌*◌, ◌/◌, min, max, nat_lt, if◌then◌else◌}

-- from when on it may, how long it last had to wait, how much time it lost to late yields, and when the last of them ended
pub record Yields : Type 0 where
  pub from : ℕ
  pub pause : ℕ
  pub lost : ℕ
  pub at : ℕ

-- a yield is late that took half a millisecond or longer
abbrev pub late : ℕ
late = 500000

-- so much may be lost to them: twenty milliseconds, and an eighth of the time that passes
abbrev pub most_lost : ℕ
most_lost = 20000000

abbrev pub lost_after : Yields → ℕ → ℕ → ℕ
lost_after y began ended = (y.lost - (ended - y.at) / 8) + (ended - began)

-- the shortest pause is a second; the longest is sixteen
abbrev pub shortest : ℕ
shortest = 1000000000

abbrev pub longest : ℕ
longest = 16000000000

-- the next pause is twice the one before, where that was over for less than sixteen seconds
abbrev pub next_pause : Yields → ℕ → ℕ
next_pause y ended = if nat_lt (ended - y.from) longest then max shortest (min longest (2 * y.pause)) else shortest

-- what is known after a late yield, and after any
abbrev pub after_late : Yields → ℕ → ℕ → Yields
after_late y began ended =
    if nat_lt (lost_after y began ended) most_lost then record y { lost = lost_after y began ended; at = ended }
    else record { from = ended + next_pause y ended; pause = next_pause y ended; lost = 0; at = ended }

abbrev pub after_yield : Yields → ℕ → ℕ → Yields
after_yield y began ended = if nat_lt (ended - began) late then y else after_late y began ended
