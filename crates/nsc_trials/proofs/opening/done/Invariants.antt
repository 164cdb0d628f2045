-- The room of the database that is opened.
use Rattle.std.specs.Prelude.{None}
use Rattle.nsc_database.specs.Openings.{brought_in}
use Rattle.nsc_trials.proofs.opening.done.Given as goal

-- the words and the settings of the database that was just opened, and the reloads that an image brought; its file sets do not tell what they hold
abbrev pub ghosts-done_in : goal.ghosts-done_in
ghosts-done_in g a = record { table = λ _. a.opened.pass.table; conf = a.conf.now; held = None; brought = λ _. brought_in a.opened.begun.writer.cache.entries }
