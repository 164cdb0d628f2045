-- What a store of images counts.
use Rattle.std.specs.Prelude.{ℕ, List, replicate, slice_index_or}
use Rattle.nsc_model.specs.declared.kind.Db.{Db}
use Rattle.nsc_model.specs.Image.{db_number}

-- faults in all, and of each database, by its number, the puts that succeeded and those that failed
pub record ImageTally : Type 0 where
  pub faults : ℕ
  pub puts : List ℕ
  pub failed_puts : List ℕ

-- no count has begun
abbrev pub no_image_counts : ImageTally
no_image_counts = record { faults = 0; puts = replicate 4 0; failed_puts = replicate 4 0 }

-- the count of a database among those by number
abbrev pub db_count : List ℕ → Db → ℕ
db_count counts which = slice_index_or counts (db_number which) 0
