use Rattle.std.proofs.Common.{◌≡◌, ap, ◌∙◌, refl, rules}
use Rattle.std.specs.Char.{to_ascii_lowercase}
use Rattle.std.specs.Iterator.Adapters.{map_callee}
use Rattle.std.specs.Ordering.{nat_cmp}
use Rattle.std.proofs.lemmas.Iterator.{YieldsList-from_map, YieldsList-from_slice}
use Rattle.std.proofs.lemmas.Iterator.Search.{cmp_from_yields_List}
use Rattle.nsc_index.proofs.names.order_in_any_case.Goals as goal

pub returns : goal.returns
returns c =
    cmp_from_yields_List (λ x y. y ≡ x) _ nat_cmp _ c.cmp.ensures.ran
    (YieldsList-from_map _ to_ascii_lowercase (YieldsList-from_slice c.args.a.now cc) c.map-lower_a.ensures.closure (λ x r q k. search rules))
    (λ it e. YieldsList-from_map _ to_ascii_lowercase (YieldsList-from_slice c.args.b.now cc) (ap map_callee e ∙ c.map-lower_b.ensures.closure) (λ x r q k. search rules))
    (λ x y. refl)
