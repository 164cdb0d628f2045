-- A store of images over the file system.
use Rattle.std.specs.Prelude.{ℕ, List, Option}
use Rattle.nsc_outside.specs.ImageTally.{ImageTally}

-- the folder in which the images stand, once one was named, and what the store counts
pub record HostImages : Type 0 where
  pub folder : Option (List ℕ)
  pub counts : ImageTally
