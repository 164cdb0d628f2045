use Rattle.std.proofs.Common.{◌-◌, length, drop, arith, rules}
use Rattle.std.specs.Ordering.{is_eq, is_lt, nat_cmp}
use Rattle.std.specs.Cmp.Lexicographic.{slice_cmp, nat_list_cmp_total}
use Rattle.std.proofs.lemmas.List.{length-drop, take_all}
use Rattle.std.proofs.lemmas.List.Sorted.{IsPartitionPoint-from_clause, searchable_from_sorted}
use Rattle.nsc_index.specs.declared.names.NameAt.{NameAt}
use Rattle.nsc_index.specs.Names.{cased, name_key}
use Rattle.nsc_index.proofs.InOrder.{lower_first, same_between, same_next}
use Rattle.nsc_index.proofs.names.places_of_name.Goals as goal

pub returns : goal.returns
returns c =
    let text = c.args.text.now in
    let case = c.args.case in
    let names = c.args.names.now in
    let name = cased case c.args.name.now in
    let at_least = c.partition_point-from.result in
    let ord = λ (at : NameAt). slice_cmp nat_cmp (name_key case text at) name in
    let rises = searchable_from_sorted nat_list_cmp_total (name_key case text) names name c.requires in
    let point = IsPartitionPoint-from_clause (λ at. is_lt (ord at)) _ _ c.partition_point-from.ensures.partitioned (lower_first ord names rises) (λ a r q k. search rules) in
    let rest = take_all (length names - at_least) (drop at_least names) (omega (arith, length-drop at_least names)) in
    let next = IsPartitionPoint-from_clause (λ at. is_eq (ord at)) _ _ c.partition_point-count.ensures.partitioned (same_next ord names rises _ _ rest point) (λ a r q k. search rules) in
    same_between ord names rises _ _ _ rest point next
