use Rattle.std.specs.Prelude.{◌++◌}
use Rattle.nsc_database.specs.Made.{gained}
use Rattle.nsc_database.proofs.made.Made.add.Given as goal

abbrev pub ghost-of : goal.ghost-of
ghost-of a = gained a.from.now.before.value.seen a.from.now.after.value.seen ++ a.from.now.made.value
