use Rattle.nsc_rule.specs.Searches.{StateTells}
use Rattle.nsc_rule.proofs.pass.Pass.state.Given as goal

abbrev pub ghosts-look : goal.ghosts-look
ghosts-look a = record { told = StateTells a.seat.now.me.0 }
