use Rattle.nsc_workload.proofs.Joined.{part_fits}
use Rattle.nsc_workload.proofs.assignment.AssignmentWork.share.Goals as goal

pub replies-requires : goal.replies-requires
replies-requires g c =
    let assignment = c.args.self.now in
    part_fits assignment.number assignment.workers c.args.worker c.first-from.result c.first-to.result assignment.workers_fit.0 c.requires c.first-from.ensures c.first-to.ensures
