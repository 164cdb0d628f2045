use Rattle.nsc_rule.specs.Searches.{BucketTells}
use Rattle.nsc_rule.proofs.pass.Pass.bucket.Given as goal

abbrev pub ghosts-look : goal.ghosts-look
ghosts-look a = record { told = BucketTells a.map.now.layout a.seat.now.me.0 }
