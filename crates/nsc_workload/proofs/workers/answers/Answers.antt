use Rattle.std.proofs.Common.{◌≡◌, length, arith}
use Rattle.std.proofs.lemmas.Result.{IfOk-weaker}
use Rattle.nsc_workload.specs.Runs.{reader_count}
use Rattle.nsc_workload.proofs.Counted.{each_read}
use Rattle.nsc_workload.proofs.workers.answers.Goals as goal

pub returns-clause-each : goal.returns-clause-each
returns-clause-each g c =
    let given = c.in_ok-given.given in
    let two : length given.items ≡ reader_count = omega (arith, c.in_ok-given.ensures.len, given.ok) in
    IfOk-weaker c.all_given.result _ _ (λ all same. each_read all.items given.items same two c.in_ok-given.ensures.each) c.all_given.ensures
