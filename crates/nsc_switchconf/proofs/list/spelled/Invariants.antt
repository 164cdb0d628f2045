use Rattle.std.proofs.Common.{◌≡◌, length}
use Rattle.nsc_model.specs.Switches.{list_from, spelled_list, tokens_of}
use Rattle.nsc_switchconf.specs.Places.{place_of}
use Rattle.nsc_switchconf.proofs.Readings.{ahead}
use Rattle.nsc_switchconf.proofs.list.spelled.Given as goal

abbrev pub invariant-loop-token : goal.invariant-loop-token
invariant-loop-token l = spelled_list l.text ≡ ahead l.list.items (list_from (place_of l.place) l.step (tokens_of l.left))

abbrev pub decreases-loop-token : goal.decreases-loop-token
decreases-loop-token l = length l.left
