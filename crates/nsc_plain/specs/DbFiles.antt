-- The files that a database reads.
use Rattle.std.specs.Prelude.{Bool}
use Rattle.nsc_model.specs.Content.{Content}

-- the files as they are, and whether the cache is known to have polled them
pub record DbFiles : Type 0 where
  pub files : Content
  pub is_polled : Bool
