use Rattle.nsc_model.specs.Settings.{default_settings}
use Rattle.nsc_database.specs.Openings.{brought_in}
use Rattle.nsc_database.specs.Rooms.{reloads_brought, tables}
use Rattle.nsc_connection_trials.proofs.four.over.Given as goal

-- the words of the databases that were opened, their settings, and the files that their file sets hold
abbrev pub ghosts-in_room : goal.ghosts-in_room
ghosts-in_room g a = record { table = tables a.openings.passwd.pass.table a.openings.group.pass.table a.openings.hosts.pass.table a.openings.services.pass.table; conf = default_settings; held = g.F.FileSet.held a.openings.passwd.files; brought = reloads_brought (brought_in a.openings.passwd.begun.writer.cache.entries) (brought_in a.openings.group.begun.writer.cache.entries) (brought_in a.openings.hosts.begun.writer.cache.entries) (brought_in a.openings.services.begun.writer.cache.entries) }
