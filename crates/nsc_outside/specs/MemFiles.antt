-- A set of files in memory.
use Rattle.std.specs.Prelude.{ℕ, List, [], replicate, Option, None}
use Rattle.nsc_model.specs.Content.{Content}
use Rattle.nsc_model.specs.Files.{no_files}
use Rattle.atomic_table.specs.Seated.{TableId}
use Rattle.nsc_outside.specs.ConfFile.{ConfFile}
use Rattle.nsc_outside.specs.ReadPlan.{ReadPlan, new_plan}
use Rattle.nsc_outside.specs.Tally.{Tally, no_counts}

-- what it holds, which reads fail and the numbers of its own, what the latest read of each file gave, by number, and what it counts
pub record MemFiles : Type 0 where
  pub files : Content
  pub confs : List ConfFile
  pub plan : ReadPlan
  pub latest : List (Option (Option (List ℕ)))
  pub counts : Tally

-- nothing is held, no read of this numbering fails, and none was made
abbrev pub empty_set : TableId → MemFiles
empty_set numbering = record { files = no_files; confs = []; plan = new_plan [] numbering; latest = replicate 8 None; counts = no_counts }

-- the same files, of which nothing was read
abbrev pub unread : MemFiles → MemFiles
unread set = record set { plan = new_plan set.plan.failing set.plan.numbering; latest = replicate 8 None; counts = no_counts }
