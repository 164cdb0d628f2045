use Rattle.std.proofs.Common.{◌≤◌, ◌-◌, All, length}
use Rattle.nsc_accounts.specs.Matters.{matters_for}
use Rattle.nsc_accounts.proofs.Mattering.{KeptSo}
use Rattle.nsc_accounts.proofs.matters.lines_that_matter.Given as goal

abbrev pub invariant-loop-line : goal.invariant-loop-line
invariant-loop-line l = record {
  inside : l.from ≤ length l.text;
  lie : All (λ line. line.to ≤ length l.text) l.lines.items;
  left : KeptSo l.text (matters_for l.sought) l.from l.lines.items;
}

abbrev pub decreases-loop-line : goal.decreases-loop-line
decreases-loop-line l = length l.text - l.from
