use Rattle.std.proofs.Common.{◌≡◌, ◌≤◌, ◌-◌, length, drop}
use Rattle.nsc_model.specs.Answers.{ids_of}
use Rattle.nsc_accounts.specs.Once.{all_ids}
use Rattle.nsc_accounts.proofs.Collected.{member_ids}
use Rattle.nsc_accounts.proofs.members.groups_of.Given as goal

abbrev pub invariant-loop-line : goal.invariant-loop-line
invariant-loop-line l = record {
  inside : l.from ≤ length l.text;
  left : all_ids l.ids (member_ids l.user (drop l.from l.text)) ≡ ids_of l.user l.text;
}

abbrev pub decreases-loop-line : goal.decreases-loop-line
decreases-loop-line l = length l.text - l.from
