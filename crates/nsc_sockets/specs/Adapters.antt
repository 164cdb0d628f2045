-- What is told of the adapters.
use Rattle.std.specs.Prelude.{ℕ}

-- the moment that a clock told last
pub record HostClock : Type 0 where
  pub latest : ℕ

-- how many calls of a listener have failed
pub record UnixListener : Type 0 where
  pub faults : ℕ

-- how many calls of what a peer sends have failed
pub record UnixInput : Type 0 where
  pub faults : ℕ

-- how many calls of what a peer is sent have failed
pub record UnixOutput : Type 0 where
  pub faults : ℕ
