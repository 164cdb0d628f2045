use Rattle.std.proofs.Common.{List, ℕ, ◌==◌, eqb, ap, subst, sym, ◌∙◌}
use Rattle.std.specs.List.Sorted.{IsStrictlyIncreasing}
use Rattle.std.proofs.lemmas.List.Filters.{dedup_is}
use Rattle.std.proofs.lemmas.List.Sorted.{list_any-IsPermutation}
use Rattle.std.proofs.lemmas.Map.Keys.{IsStrictlyIncreasing-dedup}
use Rattle.nsc_index.specs.Signs.{has_place}
use Rattle.nsc_index.proofs.PlaceRows.{any_once}
use Rattle.nsc_index.proofs.places.in_order.Goals as goal

pub returns-clause-rises : goal.returns-clause-rises
returns-clause-rises c =
    let sorted = c.sort_unstable.new.self.items in
    subst IsStrictlyIncreasing (sym (dedup_is eqb sorted c.dedup.new.self.items c.dedup.ensures.filtered)) (IsStrictlyIncreasing-dedup sorted c.sort_unstable.ensures.sorted)

pub returns-clause-same : goal.returns-clause-same
returns-clause-same c place =
    let sorted = c.sort_unstable.new.self.items in
    ap (λ (places : List ℕ). has_place places place) (dedup_is eqb sorted c.dedup.new.self.items c.dedup.ensures.filtered)
    ∙ any_once (λ other. other == place) sorted ∙ sym (list_any-IsPermutation (λ other. other == place) _ sorted c.sort_unstable.ensures.permutation)
