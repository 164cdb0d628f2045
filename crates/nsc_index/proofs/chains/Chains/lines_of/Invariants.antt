use Rattle.std.proofs.Common.{◌≡◌, ◌<◌, ◌-◌, ◌++◌, true, drop, filter, get_or, length, map}
use Rattle.nsc_index.specs.declared.numbers.NumberAt.{NumberAt}
use Rattle.nsc_index.specs.Chains.{bucket, in_bucket}
use Rattle.nsc_index.specs.Numbers.{has_number}
use Rattle.nsc_index.proofs.chains.Chains.lines_of.Given as goal

-- the lines so far, and those of the rows that are left
abbrev pub invariant-loop-at : goal.invariant-loop-at
invariant-loop-at l = record {
  here : (row : NumberAt) → l.at < length l.self-inside.rows.items → in_bucket (length l.self-inside.heads.items) (bucket (length l.self-inside.heads.items) l.number) (get_or l.self-inside.rows.items l.at row) ≡ true;
  left : l.lines.items ++ map (λ (at : NumberAt). at.line) (filter (has_number l.number) (drop l.at l.self-inside.rows.items)) ≡ map (λ (at : NumberAt). at.line) (filter (has_number l.number) l.self-inside.rows.items);
}

abbrev pub decreases-loop-at : goal.decreases-loop-at
decreases-loop-at l = length l.self-inside.rows.items - l.at
