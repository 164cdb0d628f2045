-- The room of the database that is opened.
use Rattle.std.specs.Prelude.{Some}
use Rattle.nsc_database.specs.Openings.{brought_in}
use Rattle.nsc_workload.proofs.room.lines_over.Given as goal

-- the words and the settings of the database that was just opened, over the content that its file sets tell
abbrev pub ghosts-lines_in : goal.ghosts-lines_in
ghosts-lines_in g a = record { table = λ _. a.opened.pass.table; conf = a.conf.now; held = Some g.C.OfContent.files; brought = λ _. brought_in a.opened.begun.writer.cache.entries }
