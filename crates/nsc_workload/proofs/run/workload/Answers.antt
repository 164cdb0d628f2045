use Rattle.nsc_outside.specs.StreamAt.{stream_out}
use Rattle.nsc_workload.specs.Runs.{replies_from}
use Rattle.nsc_workload.specs.Workload.{request_count}
use Rattle.nsc_workload.proofs.Counted.{told_by}
use Rattle.nsc_workload.proofs.run.workload.Goals as goal

pub returns-in-Ok-clause-differing : goal.returns-in-Ok-clause-differing
returns-in-Ok-clause-differing g c =
    told_by c.write.result c.as_slice.result.now (stream_out g.K.Sink c.args.output.now) (stream_out g.K.Sink c.write.new.output) (replies_from c.args.number 0 (request_count c.args.number)) c.in-Ok.outcome.differing
    c.write.ensures.written c.write.ensures.known c.in-Ok.ensures.differing
