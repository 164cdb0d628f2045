-- What a set of files counts.
use Rattle.std.specs.Prelude.{ℕ, List, replicate, slice_index_or}
use Rattle.nsc_model.specs.Kinds.{file_number}
use Rattle.nsc_model.specs.declared.kind.FileId.{FileId}

-- faults in all, and of each file, by its number, faults and reads
pub record Tally : Type 0 where
  pub faults : ℕ
  pub file_faults : List ℕ
  pub reads : List ℕ

-- no count has begun
abbrev pub no_counts : Tally
no_counts = record { faults = 0; file_faults = replicate 8 0; reads = replicate 8 0 }

-- the count of a file among those by number
abbrev pub count_of : List ℕ → FileId → ℕ
count_of counts file = slice_index_or counts (file_number file) 0
