use Rattle.nsc_rule.specs.Searches.{LastTells}
use Rattle.nsc_rule.proofs.pass.Pass.last_cycle.Given as goal

abbrev pub ghosts-look : goal.ghosts-look
ghosts-look a = record { told = LastTells a.seat.now.me.0 }
