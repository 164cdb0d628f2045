use Rattle.nsc_rule.specs.Searches.{BeginTells}
use Rattle.nsc_rule.proofs.pass.Pass.first_cycle.Given as goal

abbrev pub ghosts-look : goal.ghosts-look
ghosts-look g a = record { told = BeginTells a.map.now.layout g.request a.seat.now.me.0 }
