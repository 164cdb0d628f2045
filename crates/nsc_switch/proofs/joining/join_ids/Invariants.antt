use Rattle.std.proofs.Common.{◌≡◌, ◌++◌, drop}
use Rattle.nsc_model.specs.Answers.{joined_ids}
use Rattle.nsc_switch.proofs.Ids.{lacking}
use Rattle.nsc_switch.proofs.joining.join_ids.Given as goal

-- the ids so far, and those that are left and not among the held ones
abbrev pub invariant-loop-id : goal.invariant-loop-id
invariant-loop-id l = l.ids.items ++ lacking l.fn.held (drop l.id-index l.found) ≡ joined_ids l.fn.held l.found
