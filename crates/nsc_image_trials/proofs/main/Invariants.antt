use Rattle.std.proofs.Common.{length}
use Rattle.nsc_image_trials.proofs.main.Given as goal

abbrev pub decreases-images : goal.decreases-images
decreases-images l = length l.rest
