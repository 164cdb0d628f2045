use Rattle.std.proofs.Common.{◌∙◌, ap}
use Rattle.nsc_accounts.specs.Once.{all_ids}
use Rattle.nsc_compat.specs.Gathered.{unless_excluded}
use Rattle.nsc_compat.proofs.Ids.{pair_added}
use Rattle.nsc_compat.proofs.member_ids.add_all.Goals as goal

pub loop-group-preserved : goal.loop-group-preserved
loop-group-preserved c =
    pair_added c.args.excluded.now c.loop-group.ids c.add_id.new.ids c.args.groups.now c.loop-group.group-index c.group-item.result _ c.loop-group-test.true c.group-item.is
    (c.in_ok-add_id.ensures ∙ ap (λ name. all_ids c.loop-group.ids (unless_excluded c.args.excluded.now name c.group-item.result.gid)) c.as_slice.ensures) c.loop-group.invariant
