use Rattle.std.proofs.Common.{◌≡◌, ◌++◌, Some, drop, map}
use Rattle.nsc_model.specs.Answers.{pairs_of}
use Rattle.nsc_accounts.specs.NamedId.{pair_of}
use Rattle.nsc_index.proofs.OnceRows.{pairs_left}
use Rattle.nsc_index.proofs.groups.GroupIndex.named_groups.Given as goal

-- the groups so far, and those of the rows that are left
abbrev pub invariant-loop-at : goal.invariant-loop-at
invariant-loop-at l = map pair_of l.groups.items ++ pairs_left l.text l.last (drop l.at-index l.at-items) ≡ pairs_of l.user (Some l.text)
