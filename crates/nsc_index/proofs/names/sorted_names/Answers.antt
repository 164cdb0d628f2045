use Rattle.std.proofs.Common.{List, subst, rules}
use Rattle.std.specs.Ordering.{nat_cmp}
use Rattle.std.specs.Cmp.Lexicographic.{slice_cmp, nat_list_cmp_total}
use Rattle.nsc_index.specs.declared.names.NameAt.{NameAt}
use Rattle.nsc_index.specs.Indexes.{Indexes}
use Rattle.nsc_index.specs.Names.{name_key}
use Rattle.nsc_index.proofs.InOrder.{indexes}
use Rattle.nsc_index.proofs.names.sorted_names.Goals as goal

pub returns-clause-index : goal.returns-clause-index
returns-clause-index c =
    let key = name_key c.args.case c.args.text.now in
    let index = c.sort_by.new.self.items in
    subst (λ (rows : List NameAt). Indexes (slice_cmp nat_cmp) key rows index) c.shrink_to_fit.ensures.items
    (indexes nat_list_cmp_total key _ index c.in_ok-sort_by.ensures.permutation c.in_ok-sort_by.ensures.sorted c.in_ok-sort_by.ensures.stable (λ a r q k. search rules))
