use Rattle.std.proofs.Common.{◌≡◌, ◌+◌, ◌-◌, ◌++◌}
use Rattle.nsc_index.specs.Groups.{members_at}
use Rattle.nsc_index.proofs.MemberRows.{members_from}
use Rattle.nsc_index.proofs.groups.add_members.Given as goal

abbrev pub invariant-loop-piece : goal.invariant-loop-piece
invariant-loop-piece l = l.members.items ++ members_from l.text l.line l.from l.within.to ≡ l.initial.members.items ++ members_at l.text l.line l.within

abbrev pub decreases-loop-piece : goal.decreases-loop-piece
decreases-loop-piece l = l.within.to + 1 - l.from
