use Rattle.std.proofs.Common.{◌≡◌, ◌≤◌, ◌-◌, ◌++◌, Some, drop, length, map}
use Rattle.nsc_model.specs.Answers.{pairs_of}
use Rattle.nsc_accounts.specs.NamedId.{pair_of}
use Rattle.nsc_accounts.proofs.NamedGroups.{pairs_left}
use Rattle.nsc_accounts.proofs.named_id.named_groups.Given as goal

-- those that were collected, and those from this place on
abbrev pub invariant-loop-line : goal.invariant-loop-line
invariant-loop-line l = record {
  inside : l.from ≤ length l.text;
  all : map pair_of l.groups.items ++ pairs_left l.user (drop l.from l.text) ≡ pairs_of l.user (Some l.text);
}

abbrev pub decreases-loop-line : goal.decreases-loop-line
decreases-loop-line l = length l.text - l.from
