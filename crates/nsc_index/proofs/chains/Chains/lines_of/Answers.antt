use Rattle.std.proofs.Common.{◌≡◌, ◌∙◌, ◌+◌, ◌<◌, ◌++◌, ℕ, drop, List, ap, arith, filter, get_or, length, map, rules}
use Rattle.std.proofs.lemmas.List.{get_or_default}
use Rattle.nsc_index.specs.declared.numbers.NumberAt.{NumberAt}
use Rattle.nsc_index.specs.Chains.{bucket, next_in}
use Rattle.nsc_index.specs.Numbers.{has_number}
use Rattle.nsc_index.proofs.ChainRows.{here_at, left_at, left_passed, left_passed_over, next_on}
use Rattle.nsc_index.proofs.chains.Chains.lines_of.Goals as goal
use Rattle.nsc_index.proofs.chains.Chains.lines_of.Goals.{then-row-number+in_ok-push, else-row-number}

pub loop-at-init : goal.loop-at-init
loop-at-init c =
    let rows = c.self.inside.rows.items in
    let heads = c.self.inside.heads.items in
    let count = length heads in
    let own = bucket count c.args.number in
    let at = c.index.result.now in
    let lt : own < count = search rules in
    let start : at ≡ next_in count own rows 0 = c.index.ensures ∙ ap (λ n. get_or heads n at) (search rules) ∙ get_or_default heads own at 0 lt ∙ c.self.invariant.heads own lt in
    record {
      here = here_at count c.args.number rows 0 at start;
      left = ap (λ (l : List ℕ). l ++ map (λ (r : NumberAt). r.line) (filter (has_number c.args.number) (drop at rows))) c.new-lines.ensures.items ∙ ap (map (λ (r : NumberAt). r.line)) (left_at count c.args.number rows 0 at start);
    }

pub loop-at-smaller : goal.loop-at-smaller
loop-at-smaller c =
    let rows = c.self.inside.rows.items in
    let count = length c.self.inside.heads.items in
    let row = c.index-row.result.now in
    let below : c.loop-at.at < length rows = omega arith in
    let next : c.index-in-loop-at.result.now ≡ next_in count (bucket count c.args.number) rows (c.loop-at.at + 1) = next_on count c.args.number rows c.self.inside.nexts.items c.loop-at.at c.index-in-loop-at.result.now row c.self.invariant.nexts c.self.invariant.room below c.index-in-loop-at.ensures (c.loop-at.invariant.here row below) in
    omega arith

pub loop-at-preserved : goal.loop-at-preserved
loop-at-preserved c =
    let rows = c.self.inside.rows.items in
    let count = length c.self.inside.heads.items in
    let row = c.index-row.result.now in
    let at = c.loop-at.at in
    let lines = c.loop-at.lines.items in
    let new = c.if-row-number.lines.items in
    let below : c.loop-at.at < length rows = omega arith in
    let next : c.index-in-loop-at.result.now ≡ next_in count (bucket count c.args.number) rows (at + 1) = next_on count c.args.number rows c.self.inside.nexts.items at c.index-in-loop-at.result.now row c.self.invariant.nexts c.self.invariant.room below c.index-in-loop-at.ensures (c.loop-at.invariant.here row below) in
    let all = map (λ (r : NumberAt). r.line) (filter (has_number c.args.number) rows) in
    let more : new ++ map (λ (r : NumberAt). r.line) (filter (has_number c.args.number) (drop (at + 1) rows)) ≡ all = elim c.if-row-number.branch [
      | then-row-number+in_ok-push w ↦ left_passed count c.args.number rows at row lines new all c.index-row.ensures below w.if-row-number.true (search rules) c.loop-at.invariant.left
      | else-row-number w ↦ left_passed_over count c.args.number rows at row lines new all c.index-row.ensures below w.if-row-number.false (search rules) c.loop-at.invariant.left
    ] in
    record {
      here = here_at count c.args.number rows (at + 1) c.index-in-loop-at.result.now next;
      left = ap (λ (rs : List NumberAt). new ++ map (λ (r : NumberAt). r.line) rs) (left_at count c.args.number rows (at + 1) c.index-in-loop-at.result.now next) ∙ more;
    }
