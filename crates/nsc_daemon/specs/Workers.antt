-- What contracts see of the threads of a daemon.
use Rattle.std.specs.Prelude.{◌≡◌, ℕ, ◌+◌, ◌<◌, ◌≤◌}

-- nothing of a worker
pub record Worker : Type 0 where

-- nor of a helper
pub record Helping : Type 0 where

-- nor of the thread that ticks
pub record Ticking : Type 0 where

-- nor of who serves the gate
pub record Gatekeeper : Type 0 where

-- of the thread that accepts, the moment at which a tick was last due, or that of the start
pub record Acceptor : Type 0 where
  pub ticked : ℕ

-- the moment at which a tick was last due, after a turn: this one, where fifteen seconds have passed since the one before, and else that
pub record TicksSo (before now after : ℕ) : Type 0 where
  pub early : now < before + 15 → after ≡ before
  pub due : before + 15 ≤ now → after ≡ now
