-- What the reads of a database's files come to.
use Rattle.std.specs.Prelude.{◌≡◌, Option, Some}
use Rattle.nsc_model.specs.declared.kind.Db.{Db}
use Rattle.nsc_model.specs.Content.{Content}
use Rattle.nsc_model.specs.Files.{part_of}
use Rattle.nsc_model.specs.Reads.{FaultsStay, FileFailed, IsLookedUp}
use Rattle.nsc_outside.specs.declared.files.FileSet as file_set
use Rattle.nsc_outside.specs.FileSets.{IsPastLimit, told_of}
use Rattle.nsc_sourcebook.specs.declared.fault.PollFault.{PollFault}
use Rattle.nsc_sourcebook.specs.declared.fault.PollFault.TheVariants as poll

-- a content is the database's part of the files, where these are told
abbrev pub IsPart : Option Content → Db → Content → Type 0
IsPart held which content = (files : Content) → held ≡ Some files → content ≡ part_of which files

-- the files of a database were read through this set, and are this content, by what it read of them and by what it holds
pub record IsFetched {F : Type 0} (g : file_set.Ghosts F) (which : Db) (files files' : F) (content : Content) : Type 0 where
  pub looked : IsLookedUp which (g.reads files) (g.reads files') (g.latest files') content
  pub part : IsPart (g.held files) which content

-- no count of faults of a set changed
abbrev pub NoneFailed : {F : Type 0} → file_set.Ghosts F → F → F → Type 0
NoneFailed g files files' = FaultsStay (g.faults files) (g.faults files') (g.file_faults files) (g.file_faults files')

-- the files gave no content: memory was short, which counts as no fault, or one is at fault; of one that is too long the length is told
abbrev pub NotFetched : {F : Type 0} → file_set.Ghosts F → F → F → PollFault → Type 0
NotFetched g files files' poll.NoMemory = NoneFailed g files files'
NotFetched g files files' (poll.SourceFault file) = FileFailed file (g.faults files) (g.faults files') (g.file_faults files) (g.file_faults files')
NotFetched g files files' (poll.TooLong file size) = FileFailed file (g.faults files) (g.faults files') (g.file_faults files) (g.file_faults files') × IsPastLimit (told_of (g.held files) file) size
