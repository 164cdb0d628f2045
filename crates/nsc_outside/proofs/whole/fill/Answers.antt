use Rattle.std.proofs.Common.{◌≤◌, ◌∙◌, length, arith}
use Rattle.std.proofs.lemmas.List.{places}
use Rattle.nsc_outside.proofs.Streams.{Moves-then, take-written}
use Rattle.nsc_outside.proofs.whole.fill.Goals as goal

pub loop-count-preserved : goal.loop-count-preserved
loop-count-preserved g c =
    let within : c.loop-count.count ≤ length c.loop-count.buf = omega arith in
    let fits : c.in_ok-more.more ≤ length c.read.new.buf = rw c.read.auto.buf c.in_ok-more.ensures.count in
    record {
      within = grind (arith, places);
      moved = rw (take-written c.loop-count.count _ c.in_ok-more.more c.loop-count.buf c.read.new.buf within fits) (Moves-then _ _ _ _ _ c.loop-count.invariant.moved (c.in_ok-more.ensures.moved));
      calm = c.in_ok-more.ensures.calm ∙ c.loop-count.invariant.calm;
    }
