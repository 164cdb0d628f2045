use denote.Param.Send.{sendable}
use Rattle.std.proofs.Common.{◌∙◌}
use Rattle.std.proofs.Crossing.{crosses}
use Rattle.std.proofs.lemmas.Result.{IfOk-weaker}
use Rattle.nsc_workload.proofs.Counted.{counted_as}
use Rattle.nsc_workload.proofs.Crossing.{assignment-sync}
use Rattle.nsc_workload.proofs.Told.{told}
use Rattle.nsc_workload.proofs.room.lines_in.Goals as goal

pub all_replies-requires-sync-W : goal.all_replies-requires-sync-W
all_replies-requires-sync-W g c κs within = search (sendable, crosses, assignment-sync, c.type_bounds) depth 40

pub returns-clause-text : goal.returns-clause-text
returns-clause-text g c = IfOk-weaker c.of.result _ _ (λ outcome is. is ∙ told c.args.number _ c.in_ok-replies.ensures.all) c.of.ensures.text

pub returns-clause-differing : goal.returns-clause-differing
returns-clause-differing g c = IfOk-weaker c.of.result _ _ (λ outcome is. counted_as _ _ _ _ c.in_ok-replies.ensures.all is c.in_ok-replies.ensures.differing) c.of.ensures.differing
