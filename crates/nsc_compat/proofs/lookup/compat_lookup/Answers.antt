use Rattle.std.proofs.Common.{◌∙◌}
use Rattle.std.proofs.lemmas.Result.{IfOk-weaker}
use Rattle.nsc_compat.proofs.ByKind.{group_by_id, group_by_name, user_by_id, user_by_name}
use Rattle.nsc_compat.proofs.lookup.compat_lookup.Goals as goal

pub returns-in_ok-lines-in-PwName : goal.returns-in_ok-lines-in-PwName
returns-in_ok-lines-in-PwName g c = IfOk-weaker c.entry.result _ _ (λ looked is. is ∙ user_by_name (g.S.SubLookup.content c.args.sub.now) c.args.kind c.args.key.now c.in-PwName.is) c.entry.ensures

pub returns-in_ok-lines-in-PwUid : goal.returns-in_ok-lines-in-PwUid
returns-in_ok-lines-in-PwUid g c =
    IfOk-weaker c.entry-in-PwUid.result _ _ (λ looked is. is ∙ user_by_id (g.S.SubLookup.content c.args.sub.now) c.args.kind c.args.key.now c.decimal-id.result c.in-PwUid.is c.decimal-id.ensures) c.entry-in-PwUid.ensures

pub returns-in_ok-lines-in-GrName : goal.returns-in_ok-lines-in-GrName
returns-in_ok-lines-in-GrName g c = IfOk-weaker c.entry-in-GrName.result _ _ (λ looked is. is ∙ group_by_name (g.S.SubLookup.content c.args.sub.now) c.args.kind c.args.key.now c.in-GrName.is) c.entry-in-GrName.ensures

pub returns-in_ok-lines-in-GrGid : goal.returns-in_ok-lines-in-GrGid
returns-in_ok-lines-in-GrGid g c =
    IfOk-weaker c.entry-in-GrGid.result _ _ (λ looked is. is ∙ group_by_id (g.S.SubLookup.content c.args.sub.now) c.args.kind c.args.key.now c.decimal-id.result c.in-GrGid.is c.decimal-id.ensures) c.entry-in-GrGid.ensures
