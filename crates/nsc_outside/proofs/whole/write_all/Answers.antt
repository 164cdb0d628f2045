use Rattle.std.proofs.Common.{◌≤◌, ◌∙◌, length, arith}
use Rattle.std.proofs.lemmas.Result.{err_from_is_err_and}
use Rattle.std.proofs.lemmas.List.{places}
use Rattle.nsc_outside.proofs.Streams.{Grows-then, GrowsByFront-at, take-further}
use Rattle.nsc_outside.proofs.whole.write_all.Goals as goal

pub returns-in_err-done-clause-front : goal.returns-in_err-done-clause-front
returns-in_err-done-clause-front g c =
    let p = err_from_is_err_and c.from_residual.result c.from_residual.ensures.1 in
    rw p.1 (GrowsByFront-at _ _ _ _ c.loop-done.done c.loop-done.invariant.grown c.in_err-done.ensures.stays)

pub loop-done-preserved : goal.loop-done-preserved
loop-done-preserved g c =
    let within : c.loop-done.done ≤ length c.args.bytes.now = omega arith in
    record {
      within = grind (arith, places);
      grown = rw (take-further c.loop-done.done c.in_ok-done.field-0 c.args.bytes.now within c.in_ok-done.ensures.count) (Grows-then _ _ _ _ _ c.loop-done.invariant.grown (c.in_ok-done.ensures.grown));
      calm = c.in_ok-done.ensures.calm ∙ c.loop-done.invariant.calm;
    }
