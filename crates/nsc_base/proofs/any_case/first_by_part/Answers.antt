use Rattle.std.proofs.Common.{◌≡◌, ◌+◌, ◌-◌, ℕ, List, Some, None, arith, subst, sym, ◌∙◌}
use Rattle.nsc_base.specs.AnyCase.{sought_text}
use Rattle.nsc_base.specs.Found.{NoneBefore}
use Rattle.nsc_base.specs.declared.search.Case.TheVariants.{Ignored}
use Rattle.nsc_base.proofs.AnyCase.{NoneFrom, none_at_all, none_left, none_past, none_up_to}
use Rattle.nsc_base.proofs.any_case.first_by_part.Goals as goal

pub returns-in_err-get : goal.returns-in_err-get
returns-in_err-get c = rw c.from_residual.ensures (none_left c.args.needle.now c.args.bytes.now (sought_text c.args.sought.now) c.args.ahead c.loop-n.from c.requires.part c.loop-n.invariant.none (omega (arith, c.in_err-get.ensures.lookup.0)))

pub returns-then-begins_in_any_case : goal.returns-then-begins_in_any_case
returns-then-begins_in_any_case c =
    let rest = c.in_ok-get.ensures.lookup.0 in
    let found = subst (λ (xs : List ℕ). NoneBefore Ignored (sought_text c.args.sought.now) xs (Some c.in-Some.n)) rest.2 c.in-Some.ensures in
    (omega (arith, rest.3, c.in-Some.ensures.0), none_up_to c.args.needle.now c.args.bytes.now (sought_text c.args.sought.now) c.args.ahead c.loop-n.from c.in-Some.n c.requires.part c.loop-n.invariant.past c.loop-n.invariant.none found)

pub loop-n-preserved : goal.loop-n-preserved
loop-n-preserved c =
    let rest = c.in_ok-get.ensures.lookup.0 in
    let found = subst (λ (xs : List ℕ). NoneBefore Ignored (sought_text c.args.sought.now) xs (Some c.in-Some.n)) rest.2 c.in-Some.ensures in
    let place : c.loop-n.from + c.in-Some.n - c.args.ahead + 1 ≡ c.loop-n.from + (c.in-Some.n + 1) - c.args.ahead = omega (arith, c.loop-n.invariant.past) in
    record {
      past = omega arith;
      none = subst (NoneFrom c.args.needle.now c.args.bytes.now) place (none_past c.args.needle.now c.args.bytes.now (c.loop-n.from + c.in-Some.n - c.args.ahead) (none_up_to c.args.needle.now c.args.bytes.now (sought_text c.args.sought.now) c.args.ahead c.loop-n.from c.in-Some.n c.requires.part c.loop-n.invariant.past c.loop-n.invariant.none found) (sym c.if-begins_in_any_case.false ∙ c.begins_in_any_case.ensures));
    }

pub returns : goal.returns
returns c =
    let rest = c.in_ok-get.ensures.lookup.0 in
    let missing = subst (λ (xs : List ℕ). NoneBefore Ignored (sought_text c.args.sought.now) xs None) rest.2 c.in_default.ensures in
    none_at_all c.args.needle.now c.args.bytes.now (sought_text c.args.sought.now) c.args.ahead c.loop-n.from c.requires.part c.loop-n.invariant.past c.loop-n.invariant.none missing
