use Rattle.std.proofs.Common.{◌≡◌}
use Rattle.nsc_model.specs.Files.{part_of}
use Rattle.nsc_sourcebook.specs.Reads.{NoneFailed}
use Rattle.nsc_sourcebook.proofs.Each.{AreRead}
use Rattle.nsc_sourcebook.proofs.reading.read_files.Given as goal

abbrev pub invariant-loop-file : goal.invariant-loop-file
invariant-loop-file g l = record {
  known : AreRead l.db l.file-index (g.F.FileSet.reads l.initial.files) (g.F.FileSet.reads l.files) (g.F.FileSet.latest l.files) (g.F.FileSet.held l.initial.files) l.content;
  only : l.content ≡ part_of l.db l.content;
  no_fault : NoneFailed g.F.FileSet l.initial.files l.files;
  held : g.F.FileSet.held l.files ≡ g.F.FileSet.held l.initial.files;
}
