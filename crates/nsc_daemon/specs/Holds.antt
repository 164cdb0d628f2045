-- How long a thread is at one job.
use Rattle.std.specs.Prelude.{◌≡◌, ℕ, ◌-◌, Bool, true, false, nat_le, Option, Some, None}
use Rattle.std.specs.Duration.{as_nanos}
use Rattle.std.specs.declared.time.Duration.{Duration}
use Rattle.nsc_daemon.specs.declared.hold.Hold.{Hold}

-- a thread that is at one job for 100 milliseconds is held
abbrev pub is_held : (now : Duration) → Option Duration → Bool
is_held now None = false
is_held now (Some begun) = nat_le 100000000 (as_nanos now - as_nanos begun)

-- a job ended, which held the thread until now, or did not
pub record EndsJob (now : Duration) (before after : Hold) : Type 0 where
  pub begun : after.begun ≡ None
  pub held : is_held now before.begun ≡ true → after.ended ≡ now
  pub free : is_held now before.begun ≡ false → after.ended ≡ before.ended
