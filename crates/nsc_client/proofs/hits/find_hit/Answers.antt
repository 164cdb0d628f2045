use Rattle.std.proofs.Common.{ℕ, List, subst}
use Rattle.std.proofs.lemmas.Bool.{OnTrue_at}
use Rattle.nsc_client.specs.Hits.{IsFound}
use Rattle.nsc_client.proofs.Answering.{none_asked}
use Rattle.nsc_client.proofs.FoundInPlace.{one_hit}
use Rattle.nsc_client.proofs.hits.find_hit.Goals as goal

pub returns-then-finds-clause-hit : goal.returns-then-finds-clause-hit
returns-then-finds-clause-hit g c =
    let passes = c.finds.new.passes in
    let bytes = c.finds.new.out.content in
    let kind = c.in-One.request.kind in
    let found : IsFound g.S.Store c.args.passes.now passes (record { kind = kind; key = c.as_slice.result.now }) bytes =
    OnTrue_at {P = IsFound g.S.Store c.args.passes.now passes (record { kind = kind; key = c.as_slice.result.now }) bytes} c.if-finds.true c.finds.ensures.found in
    let there = subst (λ (key : List ℕ). IsFound g.S.Store c.args.passes.now passes (record { kind = kind; key = key }) bytes) c.as_slice.ensures found in
    rw c.in-One.is (one_hit g.S.Store c.args.passes.now c.finds.new.passes (record { kind = kind; key = c.in-One.request.key }) bytes there)

pub returns-in-Bad-clause-hit : goal.returns-in-Bad-clause-hit
returns-in-Bad-clause-hit g c = rw c.in-Bad.is (none_asked g.S.Store c.args.passes.now)
