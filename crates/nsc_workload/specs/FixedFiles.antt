-- A set of files that holds one content and never fails.
use Rattle.std.specs.Prelude.{ℕ, List}
use Rattle.std.specs.List.{slice_index_or}
use Rattle.nsc_model.specs.Kinds.{file_number}
use Rattle.nsc_model.specs.declared.kind.FileId.{FileId}

-- how often each file was read, among the counts by number
abbrev pub reads_of : List ℕ → FileId → ℕ
reads_of reads file = slice_index_or reads (file_number file) 0
