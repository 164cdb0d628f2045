use Rattle.std.proofs.Common.{List, subst, rules}
use Rattle.std.specs.Cmp.{nat_cmp_total}
use Rattle.std.specs.Ordering.{nat_cmp}
use Rattle.nsc_index.specs.declared.numbers.NumberAt.{NumberAt}
use Rattle.nsc_index.specs.Indexes.{Indexes}
use Rattle.nsc_index.specs.Numbers.{number_in}
use Rattle.nsc_index.proofs.InOrder.{indexes}
use Rattle.nsc_index.proofs.numbers.sorted_numbers.Goals as goal

pub returns : goal.returns
returns c =
    let index = c.sort_by.new.self.items in
    subst (λ (rows : List NumberAt). Indexes nat_cmp number_in rows index) c.shrink_to_fit.ensures.items
    (indexes nat_cmp_total number_in _ index c.in_ok-sort_by.ensures.permutation c.in_ok-sort_by.ensures.sorted c.in_ok-sort_by.ensures.stable (λ a r q k. search rules))
