use Rattle.std.proofs.Common.{◌≡◌, drop}
use Rattle.nsc_daemonconf.specs.Tables.{found}
use Rattle.nsc_daemonconf.proofs.attributes.named.Given as goal

abbrev pub invariant-loop-name : goal.invariant-loop-name
invariant-loop-name g l = found (drop l.name-index l.table) l.word ≡ found l.table l.word
