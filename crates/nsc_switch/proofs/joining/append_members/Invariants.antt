use Rattle.std.proofs.Common.{◌≡◌, ◌++◌, take}
use Rattle.nsc_switch.proofs.joining.append_members.Given as goal

-- the texts up to this place were appended
abbrev pub invariant-loop-at : goal.invariant-loop-at
invariant-loop-at l = l.members ≡ l.initial.members ++ take l.at l.found
