use Rattle.std.proofs.Common.{◌≡◌, drop}
use Rattle.nsc_model.specs.Files.{no_files}
use Rattle.nsc_replay.specs.Parts.{all_lent}
use Rattle.nsc_replay.proofs.sources.Sources.part.Given as goal

-- the files that are left make it the whole part
abbrev pub invariant-loop-file : goal.invariant-loop-file
invariant-loop-file l = all_lent l.db l.self (drop l.file-index l.files) l.part ≡ all_lent l.db l.self l.files no_files
