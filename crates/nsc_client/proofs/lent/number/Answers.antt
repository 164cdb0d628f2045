use Rattle.std.proofs.Common.{arith}
use Rattle.nsc_client.proofs.LentRows.{field_fits}
use Rattle.nsc_client.proofs.lent.number.Goals as goal

pub returns-then-bytes-at : goal.returns-then-bytes-at
returns-then-bytes-at c = λ n. λ rest. λ low. λ there.
    let fits = field_fits c.args.bytes.now rest c.args.at n there in
    let short = c.if-bytes-at.true in
    absurd (omega arith)
