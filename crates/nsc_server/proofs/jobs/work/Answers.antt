use Rattle.std.proofs.Common.{◌∙◌, ◌+◌, ◌≤◌, ◌≡◌, ◌^◌, ℕ, ap, arith, subst, sym, rules}
use Rattle.std.specs.Prelude.{min}
use Rattle.std.proofs.Math.Nat.{min-le_right}
use Rattle.nsc_model.specs.Machine.{next_count}
use Rattle.nsc_server.proofs.Histories.{saw_on}
use Rattle.nsc_server.proofs.jobs.work.Goals as goal

-- a count that stays at its end, counted on, is the sum counted on
one_more : (given count : ℕ) → min (min (given + count) (2 ^ 62) + 1) (2 ^ 62) ≡ min (given + min (count + 1) (2 ^ 62)) (2 ^ 62)
one_more given count = omega arith

pub loop-preserved : goal.loop-preserved
loop-preserved g c = record {
  goes_on = search rules;
  own = c.serve_one.ensures.passes;
  saw = saw_on _ _ _ c.loop.invariant.saw c.serve_one.ensures.before;
  count = λ e. c.in-Some-next.ensures.given ∙ ap next_count (c.loop.invariant.count e) ∙ one_more (g.J.Jobs.given c.args.jobs.now) c.loop.count ∙ ap (λ n. min (g.J.Jobs.given c.args.jobs.now + n) (2 ^ 62)) (sym c.next_count-count.ensures);
  limit = subst (λ n. n ≤ 2 ^ 62) (sym c.next_count-count.ensures) (min-le_right (c.loop.count + 1) (2 ^ 62));
}
