use Rattle.std.proofs.Common.{◌≡◌, ℕ, ◌+◌, None, refl, arith, rules, subst}
use Rattle.nsc_growth.specs.Doubled.{IsNext}
use Rattle.nsc_growth.proofs.Doublings.{none_fits, tried_next}
use Rattle.nsc_growth.proofs.doubling.Doubling.next.Goals as goal

pub doublings-preserved : goal.doublings-preserved
doublings-preserved c =
    tried_next c.args.self.now c.args.layout c.doublings.larger c.twice-larger-in-doublings.result c.in_ok-wanted.wanted
    (c.doublings-test.ensures.buckets refl) c.doublings.invariant (c.doublings-test.ensures.allowed.0 refl) (omega arith) c.twice-larger-in-doublings.ensures

pub returns : goal.returns
returns c =
    let sum : c.in_ok-wanted.wanted ≡ c.args.live + c.args.need = search rules in
    subst (λ (n : ℕ). IsNext c.args.self.now c.args.layout n None) sum
    (none_fits c.args.self.now c.args.layout c.doublings.larger c.in_ok-wanted.wanted c.doublings.invariant (λ fits. let allowed = c.doublings-test.ensures.allowed.1 fits in cc))
