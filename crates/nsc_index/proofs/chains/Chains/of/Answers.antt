use Rattle.std.proofs.Common.{◌≡◌, arith, length}
use Rattle.std.proofs.lemmas.Grind.{common_steps}
use Rattle.std.proofs.lemmas.List.{with_items_is}
use Rattle.nsc_index.proofs.ChainRows.{are_chained}
use Rattle.nsc_index.proofs.chains.Chains.of.Goals as goal

pub invariant_of-result : goal.invariant_of-result
invariant_of-result c =
    let some : length c.link.new.heads ≡ c.in_ok-heads.heads.len = omega (arith, c.in_ok-heads.ensures.len, c.deref_mut.ensures.len, c.in_ok-heads.heads.ok.0) in
    let room : length c.link.new.nexts ≡ c.in_ok-nexts.nexts.len = omega (arith, c.in_ok-nexts.ensures.len, c.deref_mut-2.ensures.len, c.in_ok-nexts.nexts.ok.0) in
    are_chained _ c.deref.result.now c.link.new.heads c.link.new.nexts c.deref.ensures.value (with_items_is c.in_ok-heads.heads c.link.new.heads some) (with_items_is c.in_ok-nexts.nexts c.link.new.nexts room)
    (omega arith) (grind (arith, common_steps)) (grind (arith, common_steps)) (grind (arith, common_steps)) c.link.ensures.heads c.link.ensures.nexts
