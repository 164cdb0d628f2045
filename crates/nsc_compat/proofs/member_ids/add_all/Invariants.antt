use Rattle.std.proofs.Common.{◌≡◌, drop, map}
use Rattle.nsc_model.specs.Compat.{ids_of_pairs}
use Rattle.nsc_accounts.specs.Once.{all_ids}
use Rattle.nsc_accounts.specs.NamedId.{pair_of}
use Rattle.nsc_compat.proofs.member_ids.add_all.Given as goal

-- the groups that are left add the rest
abbrev pub invariant-loop-group : goal.invariant-loop-group
invariant-loop-group l = all_ids l.ids (ids_of_pairs l.excluded (map pair_of (drop l.group-index l.groups))) ≡ all_ids l.initial.ids (ids_of_pairs l.excluded (map pair_of l.groups))
