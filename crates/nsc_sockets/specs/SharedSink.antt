-- A sink in memory that others may read while it is written.
use Rattle.std.specs.Prelude.{ℕ, ◌==◌, true, if◌then◌else◌, Option, Some, None}
use Rattle.nsc_outside.specs.Release.{Release}

-- how many bytes more it can take, the flag that its first byte sets, if there is one, and how many calls have failed
pub record SharedSink : Type 0 where
  pub room : ℕ
  pub first : Option Release
  pub faults : ℕ

-- the flag, if there is one, is known to be set
abbrev pub known : Option Release → Option Release
known None = None
known (Some flag) = Some (record flag { is_set = true })

-- the flag once `count` bytes came
abbrev pub signalled : ℕ → Option Release → Option Release
signalled count first = if count == 0 then first else known first
