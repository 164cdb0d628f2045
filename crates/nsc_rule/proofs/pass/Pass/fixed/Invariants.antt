use Rattle.nsc_rule.specs.Searches.{FixedTells}
use Rattle.nsc_rule.proofs.pass.Pass.fixed.Given as goal

abbrev pub ghosts-look : goal.ghosts-look
ghosts-look a = record { told = FixedTells a.at a.seat.now.me.0 }
