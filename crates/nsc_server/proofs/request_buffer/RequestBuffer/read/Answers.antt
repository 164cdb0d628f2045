use Rattle.std.proofs.Common.{subst}
use Rattle.std.proofs.lemmas.Result.{err_from_is_err_and}
use Rattle.nsc_wire.specs.Request.{Wants}
use Rattle.nsc_server.proofs.Reading.{both_drained, both_moved, both_needed, first_limit, gets_cut, gets_few}
use Rattle.nsc_server.proofs.request_buffer.RequestBuffer.read.Goals as goal

pub returns-in_err-read_on-clause-short : goal.returns-in_err-read_on-clause-short
returns-in_err-read_on-clause-short g c =
    let p = err_from_is_err_and c.from_residual.result c.from_residual.ensures.1 in
    rw p.1 (gets_few _ _ c.in_err-read_on.ensures.fewer)

pub returns-in_err-read_on-2-clause-short : goal.returns-in_err-read_on-2-clause-short
returns-in_err-read_on-2-clause-short g c =
    let p = err_from_is_err_and c.from_residual-in_err-read_on-2.result c.from_residual-in_err-read_on-2.ensures.1 in
    rw p.1 (gets_cut _ _ _ _ _ _ c.clear.ensures c.in_ok-read_on.ensures.more (subst (λ t. Wants t c.key_wanted-key.result) c.bytes.ensures c.key_wanted-key.ensures) c.in_err-read_on-2.ensures.fewer)

pub returns-clause-moved : goal.returns-clause-moved
returns-clause-moved g c = both_moved _ _ _ _ _ _ _ _ c.clear.ensures c.in_ok-read_on.ensures.more c.in_ok-read_on-2.ensures.more

pub returns-clause-needed : goal.returns-clause-needed
returns-clause-needed g c =
    both_needed _ _ _ _ _ (first_limit _ _ _ _ _ c.clear.ensures c.in_ok-read_on.ensures.more) (subst (λ t. Wants t c.key_wanted-key.result) c.bytes.ensures c.key_wanted-key.ensures) c.in_ok-read_on-2.ensures.more

pub returns-clause-drained : goal.returns-clause-drained
returns-clause-drained g c = both_drained _ _ _ _ _ _ _ c.clear.ensures c.in_ok-read_on.ensures.more (subst (λ t. Wants t c.key_wanted-key.result) c.bytes.ensures c.key_wanted-key.ensures) c.in_ok-read_on-2.ensures.more
