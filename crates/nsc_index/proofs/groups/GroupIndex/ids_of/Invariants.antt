use Rattle.std.proofs.Common.{◌≡◌, drop}
use Rattle.nsc_model.specs.Answers.{ids_of}
use Rattle.nsc_accounts.specs.Once.{all_ids}
use Rattle.nsc_index.proofs.MemberRows.{row_ids}
use Rattle.nsc_index.proofs.groups.GroupIndex.ids_of.Given as goal

-- the ids so far, and those of the rows that are left
abbrev pub invariant-loop-at : goal.invariant-loop-at
invariant-loop-at l = all_ids l.ids (row_ids l.text (drop l.at-index l.at-items)) ≡ ids_of l.user l.text
