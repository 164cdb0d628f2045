use Rattle.nsc_rule.specs.Searches.{NextTells}
use Rattle.nsc_rule.proofs.pass.Pass.next.Given as goal

abbrev pub ghosts-look : goal.ghosts-look
ghosts-look a = record { told = NextTells a.map.now.layout a.seat.now.me.0 }
