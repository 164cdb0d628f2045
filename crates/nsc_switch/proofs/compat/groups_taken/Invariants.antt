use Rattle.std.proofs.Common.{◌≡◌, ◌++◌, drop, flat_map, map}
use Rattle.nsc_model.specs.Answers.{service_pairs}
use Rattle.nsc_accounts.specs.NamedId.{pair_of}
use Rattle.nsc_switch.proofs.compat.groups_taken.Given as goal

-- the groups so far, and those of the services that are left
abbrev pub invariant-loop-service : goal.invariant-loop-service
invariant-loop-service g l =
    let pairs = service_pairs (g.F.Finder.content l.finder) l.user in
    map pair_of l.groups.items ++ flat_map pairs (drop l.service-index l.decided.merged.items) ≡ flat_map pairs l.decided.merged.items
