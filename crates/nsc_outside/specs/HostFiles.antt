-- A set over the file system.
use Rattle.std.specs.Prelude.{ℕ, List, Option}
use Rattle.nsc_outside.specs.Tally.{Tally}

-- the folder whose files it takes, if it is no longer the system's own, and what it counts
pub record HostFiles : Type 0 where
  pub folder : Option (List ℕ)
  pub counts : Tally
