use Rattle.std.proofs.Common.{◌-◌, length, drop, arith, rules}
use Rattle.std.specs.Cmp.{nat_cmp_total}
use Rattle.std.specs.Ordering.{is_eq, is_lt, nat_cmp}
use Rattle.std.proofs.lemmas.List.{length-drop, take_all}
use Rattle.std.proofs.lemmas.List.Sorted.{IsPartitionPoint-from_clause, searchable_from_sorted}
use Rattle.nsc_index.specs.declared.numbers.NumberAt.{NumberAt}
use Rattle.nsc_index.specs.Numbers.{number_in}
use Rattle.nsc_index.proofs.InOrder.{lower_first, same_between, same_next}
use Rattle.nsc_index.proofs.numbers.places_of_number.Goals as goal

pub returns : goal.returns
returns c =
    let numbers = c.args.numbers.now in
    let at_least = c.partition_point-from.result in
    let ord = λ (at : NumberAt). nat_cmp at.number c.args.number in
    let rises = searchable_from_sorted nat_cmp_total number_in numbers c.args.number c.requires in
    let point = IsPartitionPoint-from_clause (λ at. is_lt (ord at)) _ _ c.partition_point-from.ensures.partitioned (lower_first ord numbers rises) (λ a r q k. search rules) in
    let rest = take_all (length numbers - at_least) (drop at_least numbers) (omega (arith, length-drop at_least numbers)) in
    let next = IsPartitionPoint-from_clause (λ at. is_eq (ord at)) _ _ c.partition_point-count.ensures.partitioned (same_next ord numbers rises _ _ rest point) (λ a r q k. search rules) in
    same_between ord numbers rises _ _ _ rest point next
