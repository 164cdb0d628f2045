use Rattle.std.specs.Prelude.{◌++◌}
use Rattle.nsc_database.proofs.made.Made.join.Given as goal

abbrev pub ghost-of : goal.ghost-of
ghost-of a = a.from.now.other ++ a.from.now.own.value
